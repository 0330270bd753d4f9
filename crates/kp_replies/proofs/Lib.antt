pub mod AbortedBack
pub mod Alone
pub mod Back
pub mod ErrorLines
pub mod Lines
pub mod Methods
mod NextsRead
mod NextsWritten
pub mod PatternsRead
mod Plain
pub mod ResultTrees
pub mod Texts
mod WideNumbers
