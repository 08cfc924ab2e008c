pub mod Pushed
pub mod Lines
pub mod LineFaults
pub mod Replies
pub mod Refusals
