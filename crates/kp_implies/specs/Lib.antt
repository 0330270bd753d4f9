pub mod Answers
pub mod Open
pub mod Printed
pub mod Promises
pub mod Steps
pub mod Told
pub mod View
