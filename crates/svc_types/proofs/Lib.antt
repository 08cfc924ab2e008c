pub mod KeyFields
pub mod OrderLemmas
pub mod SameLemmas
