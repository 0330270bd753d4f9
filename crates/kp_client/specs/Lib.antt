pub mod Answers
pub mod Faults
pub mod Links
pub mod Rounds
pub mod Script
pub mod Sound
pub mod View
