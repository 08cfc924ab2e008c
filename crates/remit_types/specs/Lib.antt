pub mod Dues
pub mod Limits
pub mod Months
pub mod Schedule
pub mod Worked
