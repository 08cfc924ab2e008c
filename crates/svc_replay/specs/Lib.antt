pub mod Left
pub mod Kept
pub mod Briefs
pub mod Collected
pub mod Chosen
pub mod Faults
pub mod WorkedAccounts
pub mod ArrearsLaw
