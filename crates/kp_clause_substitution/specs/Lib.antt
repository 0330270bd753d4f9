pub mod Replacing
pub mod Substituted
pub mod Sums
