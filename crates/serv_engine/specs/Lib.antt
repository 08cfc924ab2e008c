pub mod Histories
pub mod Engines
pub mod Entering
pub mod Submitting
pub mod Opening
