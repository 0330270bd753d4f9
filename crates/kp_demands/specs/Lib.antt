pub mod Classes
pub mod Demands
pub mod Known
pub mod Tabled
pub mod Truths
