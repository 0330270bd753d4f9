pub mod Ended
pub mod ExecutedEnds
pub mod ExecutedLines
pub mod Implying
pub mod Runs
pub mod SimplifiedLines
pub mod Sorts
