pub mod Fields
pub mod Values
pub mod Kept
pub mod Forms
