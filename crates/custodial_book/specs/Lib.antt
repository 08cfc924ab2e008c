pub mod Parts
pub mod Rows
pub mod Kept
pub mod WorkedTotals
