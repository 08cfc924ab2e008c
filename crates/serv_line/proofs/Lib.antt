pub mod WordLemmas
pub mod FieldLemmas
pub mod FaultLemmas
pub mod LineLemmas
pub mod TextLemmas
pub mod KeepLemmas
