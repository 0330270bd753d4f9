pub mod Further
pub mod Holding
pub mod Placing
pub mod Readable
pub mod Solvables
