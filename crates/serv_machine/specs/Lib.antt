pub mod History
pub mod Verdicts
pub mod Sayings
pub mod OnDisk
pub mod Answering
pub mod EngineLaws
