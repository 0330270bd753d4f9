pub mod Again
pub mod Later
pub mod Meanings
pub mod Telling
