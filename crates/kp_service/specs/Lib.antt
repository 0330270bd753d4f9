pub mod Alone
pub mod Answered
pub mod Answers
pub mod Batches
pub mod Meant
pub mod Ready
