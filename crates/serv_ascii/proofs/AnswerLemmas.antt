-- Each byte of an answer is ASCII.
use Rattle.std.proofs.Common.{◌≡◌, ℕ, ◌+◌, ◌-◌, ◌<◌, ◌≤◌, true, List, ◌++◌, Option, Some, None, ℤ, refl, arith}
use Rattle.std.specs.Prelude.{codes, length, nat_le}
use Rattle.std.specs.List.{All, flat_map}
use Rattle.std.specs.Str.{IsAscii}
use Rattle.std.proofs.lemmas.List.Folds.{list_all-append}
use Rattle.std.proofs.lemmas.List.Sums.{AllPass-from_list_all}
use Rattle.svc_base.specs.Calendar.{IsMonth, months_end}
use Rattle.svc_types.specs.Keys.{IsKey}
use Rattle.svc_types.specs.declared.account.Act.TheVariants.{Pay, Curtail, Payoff, Deposit, Disburse, Refund, Waive, Analyse}
use Rattle.svc_types.specs.declared.account.Designation.TheVariants as over
use Rattle.svc_types.specs.declared.account.What.{What}
use Rattle.svc_types.specs.declared.account.What.TheVariants as what
use Rattle.svc_types.specs.declared.books.Books.{Books}
use Rattle.svc_types.specs.declared.desk.Arrears.{Arrears}
use Rattle.svc_types.specs.declared.desk.HistoryLine.{HistoryLine}
use Rattle.svc_types.specs.declared.escrow.Figures.{Figures}
use Rattle.svc_types.specs.declared.replies.Reply.{Reply}
use Rattle.svc_types.specs.declared.requests.Command.{Command}
use Rattle.svc_types.specs.declared.requests.TypeChange.{TypeChange}
use Rattle.svc_types.specs.declared.terms.Terms.{Terms}
use Rattle.escrow_lines.specs.declared.line.Line.{Line}
use Rattle.escrow_analysis.specs.AggregateAnalysis.{months}
use Rattle.escrow_analysis.specs.declared.analysis.Analysis.{Analysis}
use Rattle.period_adjust.specs.declared.adjustment.Adjustment.{Adjustment}
use Rattle.period_adjust.specs.declared.report_line.ReportLine.{ReportLine}
use Rattle.period_adjust.specs.Sealed.{Sealed}
use Rattle.custodial_book.specs.declared.part.Part.{Part}
use Rattle.custodial_book.specs.declared.part.Part.TheVariants as part
use Rattle.custodial_book.specs.declared.row.Row.{Row}
use Rattle.svc_world.specs.declared.answer.Answer.{Answer}
use Rattle.svc_world.specs.declared.answer.Answer.TheVariants as answer
use Rattle.svc_world.specs.declared.custody.Custody.{Custody}
use Rattle.svc_world.specs.declared.desk.AgingCounts.{AgingCounts}
use Rattle.svc_world.specs.declared.desk.BooksStatus.{BooksStatus}
use Rattle.svc_world.specs.declared.desk.LateLoan.{LateLoan}
use Rattle.serv_report.specs.Texts.{end_line, text_of_next, text_of_balances, text_of_collected, text_of_books, text_of_payoff, text_of_accounts, text_of_borrower_cash, text_of_investor_cash, text_of_custody, text_of_names, text_of_row, text_of_count, text_of_rows}
use Rattle.serv_report.specs.ReportTexts.{text_of_heading, text_of_line, text_of_adjustment, text_of_sent, text_of_report, text_of_loan, text_of_all, text_of_trial}
use Rattle.serv_report.specs.EscrowText.{HasYear, text_of_balances_in, text_of_month_of, text_of_figures_of, text_of_escrow}
use Rattle.serv_report.specs.DeskTexts.{month_field, text_of_boarding, text_of_installments, text_of_escrow_terms, text_of_terms, text_of_bill, text_of_change, text_of_loan_terms, word_of_what, text_of_number_or, text_of_place, text_of_what, text_of_applied, text_of_waiting, text_of_event, text_of_reversed, text_of_history_head, text_of_history, text_of_quote, text_of_owed, text_of_arrears, text_of_late, text_of_late_counts, text_of_counts, text_of_aging_head, text_of_aging, text_of_held, text_of_months, text_of_status, text_of_posting}
use Rattle.serv_report.specs.PostingSigns.{IsUnsignedPosting}
use Rattle.serv_report.specs.AnswerTexts.{IsSpellable, text_of_answer}
use Rattle.serv_ascii.specs.Reach.{IsReachedDay, IsReachedMonth, IsReachedReport, AreReachedTerms, IsReachedEvent, IsReachedStatus, IsReachedAnswer}
use Rattle.serv_ascii.proofs.AsciiLemmas.{is_ascii, AreAscii, from_test, ascii_number, ascii_amount, ascii_signed, ascii_before_end, ascii_month, ascii_day, ascii_number_field, ascii_amount_field, ascii_signed_field, ascii_join, ascii_each, ascii_all, ascii_found, ascii_parts, ascii_reply, ascii_type, ascii_kind, ascii_line}

-- ---- books and payoffs

ascii_next : (m : Option ℕ) → IsReachedMonth m → AreAscii (text_of_next m)
ascii_next None is = refl
ascii_next (Some m) is = ascii_month m is

ascii_balances : (b : Books) (next : Option ℕ) → IsReachedMonth next → AreAscii (text_of_balances b next)
unfolding text_of_balances
ascii_balances b next is = simp (list_all-append is_ascii, ascii_amount_field, ascii_signed_field, ascii_next next is)

ascii_collected : (b : Books) → AreAscii (text_of_collected b)
unfolding text_of_collected
ascii_collected b = simp (list_all-append is_ascii, ascii_amount_field)

ascii_books : (loan : ℕ) (b : Books) (next : Option ℕ) (pay : ℤ) → IsReachedDay b.day → IsReachedMonth next → AreAscii (text_of_books loan b next pay)
unfolding text_of_books
ascii_books loan b next pay day is =
    simp (list_all-append is_ascii, ascii_number, ascii_day b.day day, ascii_balances b next is, ascii_collected, ascii_amount_field)

ascii_payoff : (loan day : ℕ) (cents : ℤ) → IsReachedDay day → AreAscii (text_of_payoff loan day cents)
unfolding text_of_payoff
ascii_payoff loan day cents is = simp (list_all-append is_ascii, ascii_number, ascii_day day is, ascii_amount)

-- ---- custody

ascii_custody : (c : Custody) → AreAscii (text_of_custody c)
unfolding text_of_custody text_of_accounts text_of_borrower_cash text_of_investor_cash
ascii_custody c = simp (list_all-append is_ascii, ascii_amount_field, ascii_signed_field)

ascii_names : (p : Part) → AreAscii (text_of_names p)
unfolding text_of_names
ascii_names part.Received = refl
ascii_names part.Returned = refl
ascii_names part.Refunded = refl
ascii_names part.Disbursed = refl
ascii_names part.Collected = refl
ascii_names part.Fee = refl
ascii_names part.Late = refl
ascii_names part.PiAdvance = refl
ascii_names part.EscrowAdvance = refl
ascii_names part.Remitted = refl
ascii_names part.Residual = refl

ascii_row : (r : Row) → AreAscii (text_of_row r)
unfolding text_of_row
ascii_row r = simp (list_all-append is_ascii, ascii_number, ascii_names, ascii_signed)

ascii_rows : (number : ℕ) (rows : List Row) → AreAscii (text_of_rows number rows)
unfolding text_of_rows text_of_count
ascii_rows number rows = simp (list_all-append is_ascii, ascii_number, ascii_number_field, ascii_each text_of_row rows ascii_row)

-- ---- reports

ascii_heading : (name counted : List ℕ) (month n : ℕ) → AreAscii name → AreAscii counted → IsMonth month → AreAscii (text_of_heading name month counted n)
unfolding text_of_heading
ascii_heading name counted month n named of is =
    simp (list_all-append is_ascii, named, ascii_month month is, ascii_number_field counted n of)

ascii_due : (l : ReportLine) → AreAscii (text_of_line l)
unfolding text_of_line
ascii_due l = simp (list_all-append is_ascii, ascii_number, ascii_signed, ascii_amount_field)

ascii_adjustment : (a : Adjustment) → IsMonth a.month → AreAscii (text_of_adjustment a)
unfolding text_of_adjustment
ascii_adjustment a is = simp (list_all-append is_ascii, ascii_number, ascii_month a.month is, ascii_signed)

ascii_sent : (lines : List ReportLine) → AreAscii (text_of_sent lines)
unfolding text_of_sent
ascii_sent lines = simp (list_all-append is_ascii, ascii_signed_field)

ascii_report : (r : Sealed) → IsReachedReport r → AreAscii (text_of_report r)
unfolding text_of_report
ascii_report r is =
    let head : AreAscii (text_of_heading (codes "report ") r.month (codes "lines") (length r.lines)) = ascii_heading (codes "report ") (codes "lines") r.month (length r.lines) refl refl is.month in
    simp (list_all-append is_ascii, head, ascii_each text_of_line r.lines ascii_due, ascii_all (λ (a : Adjustment). IsMonth a.month) text_of_adjustment r.adjustments ascii_adjustment is.adjusted, ascii_sent)

ascii_loan : (l : ReportLine) → AreAscii (text_of_loan l)
unfolding text_of_loan
ascii_loan l = simp (list_all-append is_ascii, ascii_number, ascii_amount_field)

ascii_totals : (lines : List ReportLine) → AreAscii (text_of_all lines)
unfolding text_of_all
ascii_totals lines = simp (list_all-append is_ascii, ascii_amount_field)

ascii_trial : (r : Sealed) → IsReachedReport r → AreAscii (text_of_trial r)
unfolding text_of_trial
ascii_trial r is =
    let head : AreAscii (text_of_heading (codes "trial ") r.month (codes "loans") (length r.lines)) = ascii_heading (codes "trial ") (codes "loans") r.month (length r.lines) refl refl is.month in
    simp (list_all-append is_ascii, head, ascii_each text_of_loan r.lines ascii_loan, ascii_totals)

-- ---- analyses

ascii_balances_in : (a : Analysis) (k : ℕ) → AreAscii (text_of_balances_in a k)
unfolding text_of_balances_in
ascii_balances_in a k = simp (list_all-append is_ascii, ascii_signed_field)

ascii_month_of : (from : ℕ) (a : Analysis) (k : ℕ) → from + (k - 1) < months_end → AreAscii (text_of_month_of from a k)
unfolding text_of_month_of
ascii_month_of from a k is = simp (list_all-append is_ascii, ascii_before_end (from + (k - 1)) is, ascii_balances_in)

ascii_figures : (loan : ℕ) (f : Figures) → f.from < months_end → AreAscii (text_of_figures_of loan f)
unfolding text_of_figures_of
ascii_figures loan f is =
    simp (list_all-append is_ascii, ascii_number, ascii_before_end f.from is, ascii_found, ascii_parts, ascii_amount_field)

few_months : (k : ℕ) → nat_le k 12 ≡ true → k ≤ 12
few_months k h = grind arith

in_year : (from k : ℕ) → HasYear from → nat_le k 12 ≡ true → from + (k - 1) < months_end
in_year from k year h = let few = few_months k h in omega (arith, few, year)

ascii_year : (from : ℕ) (a : Analysis) → HasYear from → AreAscii (flat_map (text_of_month_of from a) months)
ascii_year from a year =
    ascii_all (λ k. nat_le k 12 ≡ true) (text_of_month_of from a) months (λ k few. ascii_month_of from a k (in_year from k year few)) (AllPass-from_list_all (λ k. nat_le k 12) months refl)

ascii_escrow : (loan : ℕ) (f : Figures) (a : Analysis) → HasYear f.from → AreAscii (text_of_escrow loan f a)
unfolding text_of_escrow
ascii_escrow loan f a year =
    ascii_join (text_of_figures_of loan f ++ flat_map (text_of_month_of f.from a) months) end_line
    (ascii_join (text_of_figures_of loan f) (flat_map (text_of_month_of f.from a) months)
    (ascii_figures loan f (omega (arith, year))) (ascii_year f.from a year)) refl

-- ---- loans

ascii_boarding : (loan : ℕ) (t : Terms) → IsReachedDay t.boarded → AreAscii (text_of_boarding loan t)
unfolding text_of_boarding
ascii_boarding loan t is = simp (list_all-append is_ascii, ascii_number, ascii_day t.boarded is, ascii_amount)

ascii_installments : (t : Terms) → IsMonth t.first → AreAscii (text_of_installments t)
unfolding text_of_installments
ascii_installments t is = simp (list_all-append is_ascii, ascii_number, ascii_month t.first is, ascii_amount)

ascii_escrow_terms : (t : Terms) → AreAscii (text_of_escrow_terms t)
unfolding text_of_escrow_terms
ascii_escrow_terms t = simp (list_all-append is_ascii, ascii_number, ascii_amount, ascii_type)

ascii_bill : (l : Line) → AreAscii (text_of_bill l)
unfolding text_of_bill
ascii_bill l = simp (list_all-append is_ascii, ascii_number, ascii_kind, ascii_amount)

ascii_change : (c : TypeChange) → IsMonth c.from → AreAscii (text_of_change c)
unfolding text_of_change
ascii_change c is = simp (list_all-append is_ascii, ascii_month c.from is, ascii_type)

ascii_loan_terms : (loan : ℕ) (t : Terms) (lines : List Line) (types : List TypeChange) → AreReachedTerms t types → AreAscii (text_of_loan_terms loan t lines types)
unfolding text_of_loan_terms text_of_terms
ascii_loan_terms loan t lines types is =
    simp (list_all-append is_ascii, ascii_boarding loan t is.boarded, ascii_installments t is.first, ascii_escrow_terms, ascii_each text_of_bill lines ascii_bill, ascii_all (λ (c : TypeChange). IsMonth c.from) text_of_change types ascii_change is.changed)

-- ---- histories

ascii_act : (w : What) → AreAscii (word_of_what w)
ascii_act what.MonthMark = refl
ascii_act (what.LateMark k) = refl
ascii_act (what.Act (Pay c over.Regular)) = refl
ascii_act (what.Act (Pay c over.Principal)) = refl
ascii_act (what.Act (Pay c over.Escrow)) = refl
ascii_act (what.Act (Curtail c)) = refl
ascii_act (what.Act (Payoff c)) = refl
ascii_act (what.Act (Deposit c)) = refl
ascii_act (what.Act (Disburse c line)) = refl
ascii_act (what.Act (Refund c)) = refl
ascii_act (what.Act (Waive c)) = refl
ascii_act (what.Act (Analyse s)) = refl

ascii_number_or : (n : Option ℕ) → AreAscii (text_of_number_or n)
ascii_number_or None = refl
ascii_number_or (Some n) = ascii_number n

ascii_what : (l : HistoryLine) → IsReachedDay l.day → AreAscii (text_of_what l)
unfolding text_of_what text_of_place
ascii_what l is = simp (list_all-append is_ascii, ascii_day l.day is, ascii_number_or, ascii_act, ascii_amount)

ascii_event : (l : HistoryLine) → IsReachedEvent l → AreAscii (text_of_event l)
unfolding text_of_event text_of_applied text_of_waiting
ascii_event l is =
    simp (list_all-append is_ascii, ascii_what l is.day, ascii_signed_field, ascii_amount_field, ascii_next l.next is.next)

ascii_reversed : (r : ℕ × ℕ) → AreAscii (text_of_reversed r)
unfolding text_of_reversed
ascii_reversed r = simp (list_all-append is_ascii, ascii_number)

ascii_history : (loan day : ℕ) (lines : List HistoryLine) (reversed : List (ℕ × ℕ)) → IsReachedDay day → All IsReachedEvent lines → AreAscii (text_of_history loan day lines reversed)
unfolding text_of_history text_of_history_head
ascii_history loan day lines reversed is each =
    simp (list_all-append is_ascii, ascii_number, ascii_day day is, ascii_number_field, ascii_all IsReachedEvent text_of_event lines ascii_event each, ascii_each text_of_reversed reversed ascii_reversed)

-- ---- quotes, arrears, and who is late

ascii_quote : (loan day : ℕ) (cents perday : ℤ) → IsReachedDay day → AreAscii (text_of_quote loan day cents perday)
unfolding text_of_quote
ascii_quote loan day cents perday is = simp (list_all-append is_ascii, ascii_number, ascii_day day is, ascii_amount, ascii_amount_field)

ascii_owed : (a : Arrears) → AreAscii (text_of_owed a)
unfolding text_of_owed
ascii_owed a = simp (list_all-append is_ascii, ascii_number_field, ascii_amount_field)

ascii_arrears : (loan day : ℕ) (a : Arrears) → IsReachedDay day → AreAscii (text_of_arrears loan day a)
unfolding text_of_arrears
ascii_arrears loan day a is = simp (list_all-append is_ascii, ascii_number, ascii_day day is, ascii_owed)

ascii_late : (l : LateLoan) → IsMonth l.next → AreAscii (text_of_late l)
unfolding text_of_late
ascii_late l is = simp (list_all-append is_ascii, ascii_number, ascii_month l.next is, ascii_number_field, ascii_owed)

ascii_counts : (c : AgingCounts) → AreAscii (text_of_counts c)
unfolding text_of_counts text_of_late_counts
ascii_counts c = simp (list_all-append is_ascii, ascii_number_field)

ascii_aging : (day : ℕ) (late : List LateLoan) (c : AgingCounts) → IsReachedDay day → All (λ (l : LateLoan). IsMonth l.next) late → AreAscii (text_of_aging day late c)
unfolding text_of_aging text_of_aging_head
ascii_aging day late c is each =
    simp (list_all-append is_ascii, ascii_day day is, ascii_number_field, ascii_all (λ (l : LateLoan). IsMonth l.next) text_of_late late ascii_late each, ascii_counts)

-- ---- where the books stand

ascii_month_field : (name : List ℕ) (m : Option ℕ) → AreAscii name → IsReachedMonth m → AreAscii (month_field name m)
ascii_month_field name None named is = simp (list_all-append is_ascii, named)
ascii_month_field name (Some m) named is = simp (list_all-append is_ascii, named, ascii_month m is)

ascii_months : (s : BooksStatus) → IsReachedStatus s → AreAscii (text_of_months s)
unfolding text_of_months
ascii_months s is =
    let closed : AreAscii (month_field (codes "closed") s.closed) = ascii_month_field (codes "closed") s.closed refl is.closed in
    let remitted : AreAscii (month_field (codes "remitted") s.remitted) = ascii_month_field (codes "remitted") s.remitted refl is.remitted in
    let remit : AreAscii (month_field (codes "remit") s.remit) = ascii_month_field (codes "remit") s.remit refl is.remit in
    simp (list_all-append is_ascii, closed, remitted, ascii_month s.close is.close, remit)

ascii_status : (s : BooksStatus) → IsReachedStatus s → AreAscii (text_of_status s)
unfolding text_of_status text_of_held
ascii_status s is = simp (list_all-append is_ascii, ascii_day s.today is.today, ascii_number_field, ascii_months s is)

-- ---- commands, and any answer

ascii_posting : (key : List ℕ) (c : Command) (r : Reply) → IsKey key → IsUnsignedPosting c r → AreAscii (text_of_posting key c r)
unfolding text_of_posting
ascii_posting key c r is fits = simp (list_all-append is_ascii, ascii_number, ascii_line key c is fits.command, ascii_reply)

ascii_answer : (a : Answer) → IsSpellable a → IsReachedAnswer a → AreAscii (text_of_answer a)
ascii_answer (answer.Books loan books next pay) spelled is = ascii_books loan books next pay is.0 is.1
ascii_answer (answer.Payoff loan day cents) spelled is = ascii_payoff loan day cents is
ascii_answer (answer.Escrow loan figures analysis) spelled is = ascii_escrow loan figures analysis spelled.0
ascii_answer (answer.Report report) spelled is = ascii_report report is
ascii_answer (answer.Trial report) spelled is = ascii_trial report is
ascii_answer (answer.Custodial custody) spelled is = ascii_custody custody
ascii_answer (answer.Rows number rows) spelled is = ascii_rows number rows
ascii_answer (answer.Loan loan terms lines types) spelled is = ascii_loan_terms loan terms lines types is
ascii_answer (answer.History loan day lines reversed) spelled is = ascii_history loan day lines reversed is.0 is.1
ascii_answer (answer.Quote loan day cents perday) spelled is = ascii_quote loan day cents perday is
ascii_answer (answer.Arrears loan day arrears) spelled is = ascii_arrears loan day arrears is
ascii_answer (answer.Aging day late counts) spelled is = ascii_aging day late counts is.0 is.1
ascii_answer (answer.Status status) spelled is = ascii_status status is
ascii_answer (answer.Command key command reply) spelled is = ascii_posting key command reply is spelled

pub answer_is_ascii : (a : Answer) → IsSpellable a → IsReachedAnswer a → IsAscii (text_of_answer a)
answer_is_ascii a spelled is = from_test (text_of_answer a) (ascii_answer a spelled is)
