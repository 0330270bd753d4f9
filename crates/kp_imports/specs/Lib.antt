pub mod Faults
pub mod Names
pub mod Reaching
pub mod Walks
