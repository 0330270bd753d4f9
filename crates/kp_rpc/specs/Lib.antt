pub mod Frame
pub mod Questions
pub mod Readings
pub mod Reply
pub mod Request
pub mod View
