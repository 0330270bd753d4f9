pub mod HeadView
pub mod Keys
pub mod Merged
pub mod Rows
pub mod RuleSets
pub mod Tops
pub mod Turns
