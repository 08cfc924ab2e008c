pub mod DueFields
pub mod Interest
pub mod LimitLemmas
pub mod MonthsLemmas
