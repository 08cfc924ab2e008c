pub mod Draws
pub mod Works
pub mod Asked
pub mod Machine
pub mod Payments
pub mod Summary
pub mod Tallies
