pub mod Adding
pub mod Alone
pub mod Batching
pub mod Counted
pub mod Growing
pub mod Serving
pub mod Talking
