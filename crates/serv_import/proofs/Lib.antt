pub mod ColumnLemmas
pub mod FieldLemmas
pub mod AnswerLemmas
pub mod UniqueLemmas
