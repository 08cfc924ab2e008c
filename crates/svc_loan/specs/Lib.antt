pub mod Kept
pub mod Closed
pub mod Moved
pub mod Loan
pub mod Loans
