pub mod Report
pub mod View
