pub mod Lines
pub mod Outcome
pub mod Journal
pub mod Imported
pub mod Served
pub mod Ends
