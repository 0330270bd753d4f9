pub mod Answers
pub mod Distribution
pub mod DistributionView
pub mod FormulaView
pub mod Keys
pub mod LeafView
pub mod Leaves
pub mod Seen
