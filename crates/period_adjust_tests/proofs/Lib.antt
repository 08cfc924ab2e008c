pub mod ManyLemmas
pub mod CashLemmas
