pub mod ConditionLemmas
pub mod MatchLemmas
pub mod SlotLemmas
pub mod TermLemmas
pub mod ValueLists
