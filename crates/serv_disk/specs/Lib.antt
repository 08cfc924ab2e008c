pub mod Faults
pub mod Objects
pub mod Sides
pub mod Stamps
pub mod Listening
pub mod Disks
pub mod DiskLaws
pub mod MemDisks
