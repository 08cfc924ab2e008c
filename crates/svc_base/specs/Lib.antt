pub mod Calendar
pub mod Money
pub mod DayFields
pub mod DayLemmas
pub mod Text
pub mod Sums
pub mod EscrowMonths
