pub mod LawfulLemmas
pub mod SettledFields
pub mod LimitLemmas
