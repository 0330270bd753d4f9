pub mod Choices
pub mod Lists
pub mod MetKinds
pub mod Roots
pub mod Tightening
