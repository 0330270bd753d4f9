pub mod NameLemmas
pub mod SidesLemmas
