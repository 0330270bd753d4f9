pub mod HeadLemmas
pub mod SearchLemmas
