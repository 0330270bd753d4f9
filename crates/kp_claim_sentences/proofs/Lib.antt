pub mod Commas
pub mod LeftSorts
pub mod Noting
pub mod Shapes
pub mod SoundSides
