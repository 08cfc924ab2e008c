pub mod CutShort
pub mod DiskCalls
pub mod Kept
pub mod Crashes
