pub mod Claimed
pub mod Falling
pub mod OneMore
pub mod Outlines
pub mod TextFaults
