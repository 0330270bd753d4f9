pub mod Laws
pub mod Sourced
pub mod Symbols
