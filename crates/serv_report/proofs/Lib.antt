pub mod SumLemmas
pub mod PaidLemmas
pub mod MonthLemmas
pub mod PostingLemmas
pub mod SpellLemmas
