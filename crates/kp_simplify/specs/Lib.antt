pub mod Answers
pub mod Levels
pub mod Spelled
pub mod Told
