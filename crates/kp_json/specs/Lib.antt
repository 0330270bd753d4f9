pub mod Faults
pub mod Members
pub mod Shapes
pub mod Trees
pub mod View
pub mod Written
