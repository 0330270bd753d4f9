pub mod Conversations
pub mod Turns
