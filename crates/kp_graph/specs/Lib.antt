pub mod Growth
pub mod Kept
pub mod Says
pub mod Tree
pub mod TreeView
pub mod View
