pub mod FieldLemmas
pub mod ReplyLemmas
pub mod RequestLemmas
pub mod MemberLemmas
