pub mod Compiled
pub mod LeftForms
pub mod Lone
pub mod Priorities
pub mod ReadRules
pub mod Tests
