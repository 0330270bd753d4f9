pub mod Printed
pub mod Strings
