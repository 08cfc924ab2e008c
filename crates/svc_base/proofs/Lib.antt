pub mod CalendarLemmas
pub mod DigitLemmas
pub mod MoneyLemmas
pub mod CentsRules
pub mod TextLemmas
pub mod SumLemmas
pub mod ByteLemmas
pub mod EqualLemmas
