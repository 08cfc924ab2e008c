pub mod Texts
pub mod ReportTexts
pub mod EscrowText
pub mod DeskTexts
pub mod PostingSigns
pub mod AnswerTexts
pub mod Columns
