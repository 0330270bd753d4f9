pub mod Conversing
pub mod Resting
