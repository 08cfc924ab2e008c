pub mod OpenLemmas
pub mod MadeLemmas
pub mod WrittenLemmas
pub mod TextLemmas
