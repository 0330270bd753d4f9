pub mod Causes
pub mod Depths
pub mod Runs
pub mod Shallow
pub mod Turns
pub mod View
