pub mod ConditionLemmas
pub mod WholeLemmas
