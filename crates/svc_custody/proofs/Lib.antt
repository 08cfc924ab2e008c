pub mod CashLemmas
pub mod PositionLemmas
pub mod ListedLemmas
pub mod SameLemmas
pub mod LineLemmas
pub mod AppendLemmas
pub mod EachLemmas
