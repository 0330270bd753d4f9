pub mod CaseLemmas
pub mod CounterCauses
pub mod ShownExamples
pub mod SquareCauses
