pub mod MovedLemmas
pub mod ClosedLemmas
pub mod LoanLemmas
pub mod KeptLemmas
pub mod FirstLemmas
pub mod EachLemmas
