pub mod Sides
pub mod Decided
pub mod View
