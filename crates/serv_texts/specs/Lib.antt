pub mod Status
pub mod Input
pub mod Journal
pub mod Extracts
pub mod Texts
