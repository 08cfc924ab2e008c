pub mod Files
pub mod Taking
pub mod Columns
pub mod Texts
pub mod Amounts
