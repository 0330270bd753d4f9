pub mod Results
pub mod View
