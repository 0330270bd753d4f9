pub mod Exact
pub mod Names
pub mod Parts
pub mod Spelled
pub mod States
pub mod Verified
