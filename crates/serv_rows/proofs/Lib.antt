pub mod RecordLemmas
pub mod FieldLemmas
pub mod ColumnLemmas
pub mod FaultLemmas
pub mod TakenLemmas
pub mod AmountLemmas
