pub mod Parts
pub mod Lawful
pub mod Limits
pub mod Settlement
