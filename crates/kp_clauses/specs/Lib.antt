pub mod Faults
pub mod Opened
pub mod OpenedPredicates
pub mod View
