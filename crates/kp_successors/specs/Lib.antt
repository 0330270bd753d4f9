pub mod Choices
pub mod Errors
pub mod Instances
pub mod Nexts
pub mod Refusals
pub mod Successors
pub mod Turns
