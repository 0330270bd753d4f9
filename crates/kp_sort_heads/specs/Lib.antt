pub mod Views
pub mod Remaining
pub mod Live
