pub mod Calls
pub mod Compared
pub mod Told
pub mod Wide
