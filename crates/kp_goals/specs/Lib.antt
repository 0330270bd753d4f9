pub mod Consequents
pub mod Determined
pub mod Exact
pub mod Gives
pub mod Goals
pub mod Loosened
pub mod Taken
pub mod View
