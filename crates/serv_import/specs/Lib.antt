pub mod Rows
pub mod Columns
pub mod Fields
pub mod Batches
