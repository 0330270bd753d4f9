pub mod SmallTheories
pub mod Toys
pub mod ToysClaims
pub mod ToysReplies
pub mod ToysTheory
pub mod ToysValues
