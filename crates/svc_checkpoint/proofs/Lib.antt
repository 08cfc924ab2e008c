pub mod EndsLemmas
pub mod PlanLemmas
pub mod PostedLemmas
pub mod QuietLemmas
