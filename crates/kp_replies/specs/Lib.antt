pub mod Aborted
pub mod Failures
pub mod Read
pub mod Replies
pub mod RightReplies
pub mod View
pub mod Written
