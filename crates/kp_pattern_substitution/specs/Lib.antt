pub mod Seen
pub mod Substitution
