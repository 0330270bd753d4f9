pub mod Nests
pub mod Rests
pub mod Cutting
pub mod OneWay
pub mod Total
