pub mod Layered
pub mod Walking
