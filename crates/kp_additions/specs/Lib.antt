pub mod Added
pub mod Served
pub mod Told
