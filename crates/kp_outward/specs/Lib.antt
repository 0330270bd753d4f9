pub mod Arranged
pub mod Errors
pub mod Joined
pub mod Order
pub mod Parts
pub mod Turned
pub mod View
