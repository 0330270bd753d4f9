pub mod Given
pub mod Literals
pub mod LiveHeads
pub mod Loops
pub mod Making
pub mod Rows
pub mod Uses
pub mod Values
