pub mod Heads
pub mod Steps
pub mod Rows
pub mod Made
