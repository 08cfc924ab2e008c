pub mod State
pub mod Costs
pub mod Targets
