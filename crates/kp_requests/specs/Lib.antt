pub mod Asked
pub mod Frames
pub mod Objects
pub mod Calls
pub mod Requests
pub mod View
