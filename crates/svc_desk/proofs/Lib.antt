pub mod TellingLemmas
pub mod AgingLemmas
pub mod ToldLemmas
