pub mod CashLemmas
pub mod RowLemmas
pub mod SameLemmas
