pub mod DescribedCommands
pub mod OneCommand
pub mod ReadCommands
pub mod Walks
pub mod WrittenWords
