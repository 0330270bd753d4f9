pub mod Asking
pub mod Comparing
pub mod Holding
pub mod Kinds
pub mod Numbers
pub mod Saying
pub mod Ways
