pub mod Commands
pub mod Described
pub mod Words
