pub mod Broken
pub mod Jobs
pub mod Layered
pub mod Rounds
pub mod Sound
pub mod StatedSorts
