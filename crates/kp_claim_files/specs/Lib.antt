pub mod Ground
pub mod Modules
pub mod Read
