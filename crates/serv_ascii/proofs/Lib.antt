pub mod ReachLemmas
pub mod AsciiLemmas
pub mod AnswerLemmas
