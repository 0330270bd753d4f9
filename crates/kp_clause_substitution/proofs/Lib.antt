pub mod ClauseLemmas
pub mod StateLemmas
pub mod SumLemmas
