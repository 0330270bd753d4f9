pub mod Substituted
pub mod SubstitutedForms
