pub mod AggregateAnalysis
pub mod WorkedYears
