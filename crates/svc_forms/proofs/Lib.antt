pub mod ValueLemmas
pub mod RequestLemmas
