pub mod Names
pub mod Rests
