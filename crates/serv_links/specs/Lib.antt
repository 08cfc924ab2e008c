pub mod Meanings
pub mod Outcomes
pub mod Links
pub mod Doors
