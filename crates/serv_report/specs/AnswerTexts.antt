-- The text of each answer to a query, and which answers have one.
use Rattle.std.specs.Prelude.{ℕ, List}
use Rattle.svc_world.specs.declared.answer.Answer.{Answer}
use Rattle.svc_world.specs.declared.answer.Answer.TheVariants as answer
use Rattle.svc_world.specs.Unsigned.{AreUnsignedFigures, IsUnsignedAnswer}
use Rattle.serv_report.specs.Texts.{text_of_books, text_of_payoff, text_of_custody, text_of_rows}
use Rattle.serv_report.specs.ReportTexts.{text_of_report, text_of_trial}
use Rattle.serv_report.specs.EscrowText.{HasYear, text_of_escrow}
use Rattle.serv_report.specs.PostingSigns.{IsUnsignedPosting}
use Rattle.serv_report.specs.DeskTexts.{text_of_loan_terms, text_of_history, text_of_quote, text_of_arrears, text_of_aging, text_of_status, text_of_posting}

-- an answer that has a text: what the text says without a sign is not below 0, of a command with its reply too, and the
-- year of an analysis has a name for each month
abbrev pub IsSpellable : Answer → Type 0
IsSpellable (answer.Escrow loan figures analysis) = HasYear figures.from × AreUnsignedFigures figures
IsSpellable (answer.Command key command reply) = IsUnsignedPosting command reply
IsSpellable other = IsUnsignedAnswer other

-- the text of an answer
abbrev pub text_of_answer : Answer → List ℕ
text_of_answer (answer.Books loan books next pay) = text_of_books loan books next pay
text_of_answer (answer.Payoff loan day cents) = text_of_payoff loan day cents
text_of_answer (answer.Escrow loan figures analysis) = text_of_escrow loan figures analysis
text_of_answer (answer.Report report) = text_of_report report
text_of_answer (answer.Trial report) = text_of_trial report
text_of_answer (answer.Custodial custody) = text_of_custody custody
text_of_answer (answer.Rows number rows) = text_of_rows number rows
text_of_answer (answer.Loan loan terms lines types) = text_of_loan_terms loan terms lines types
text_of_answer (answer.History loan day lines reversed) = text_of_history loan day lines reversed
text_of_answer (answer.Quote loan day cents perday) = text_of_quote loan day cents perday
text_of_answer (answer.Arrears loan day arrears) = text_of_arrears loan day arrears
text_of_answer (answer.Aging day late counts) = text_of_aging day late counts
text_of_answer (answer.Status status) = text_of_status status
text_of_answer (answer.Command key command reply) = text_of_posting key command reply
