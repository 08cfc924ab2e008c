pub mod Bodies
pub mod FieldsRead
pub mod Replies
