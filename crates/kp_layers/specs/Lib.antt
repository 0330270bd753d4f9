pub mod Layers
pub mod Walks
