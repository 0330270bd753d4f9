pub mod Claims
pub mod Faults
pub mod Items
pub mod Noted
pub mod Sound
