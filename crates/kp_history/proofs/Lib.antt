pub mod Prefixes
pub mod Totals
pub mod Changed
pub mod Kept
pub mod Turning
pub mod Counting
pub mod Placing
pub mod Consequences
