pub mod Cash
pub mod Positions
pub mod Appending
