pub mod RuleLemmas
pub mod AnalysingLemmas
pub mod RefusingLemmas
pub mod FiguresLemmas
