pub mod Bills
pub mod BillLists
