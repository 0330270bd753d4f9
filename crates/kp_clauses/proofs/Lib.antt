pub mod ConjunctLemmas
pub mod FaultlessLemmas
pub mod OpenedLemmas
pub mod StateLemmas
pub mod VariableLemmas
