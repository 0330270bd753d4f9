pub mod Chosen
pub mod Filled
pub mod InTurn
pub mod Keyed
pub mod Merging
pub mod RowLemmas
pub mod Topped
