pub mod Schedule
pub mod Insurance
pub mod Boardings
pub mod Loans
pub mod Insured
pub mod Rows
pub mod Texts
pub mod Ends
