-- The texts of a month's report: its activity, and its balances alone (Fannie Mae Servicing Guide,
-- investor reporting, in this project's own lines).
use Rattle.std.specs.Prelude.{ℕ, ℤ, ◌+ℤ◌, List, ◌++◌, length, codes}
use Rattle.std.specs.List.{flat_map}
use Rattle.svc_base.specs.Sums.{total_by}
use Rattle.svc_base.specs.Text.{text_of_number, text_of_signed, text_of_month}
use Rattle.period_adjust.specs.declared.adjustment.Adjustment.{Adjustment}
use Rattle.period_adjust.specs.declared.report_line.ReportLine.{ReportLine}
use Rattle.period_adjust.specs.Sealed.{Sealed}
use Rattle.serv_line.specs.Replies.{ended, number_field, amount_field, signed_field}
use Rattle.serv_report.specs.Texts.{spaced, numbered, end_line}

-- interest and principal
abbrev pub pair : ℤ → ℤ → List ℕ
pair interest principal = spaced (text_of_signed interest) ++ spaced (text_of_signed principal)

-- a name and a pair
abbrev pub pair_field : List ℕ → ℤ → ℤ → List ℕ
pair_field name interest principal = spaced name ++ pair interest principal

-- the first line of a month's text: its name, the month, and how many there are of what it counts
unfoldable pub text_of_heading : List ℕ → ℕ → List ℕ → ℕ → List ℕ
text_of_heading name month counted n = ended (name ++ text_of_month month ++ number_field counted n)

-- the loan's balance and the investor's
abbrev pub balances : ℤ → ℤ → List ℕ
balances upb balance = amount_field (codes "upb") upb ++ amount_field (codes "balance") balance

-- what a line sends: what is due, and its adjustments
abbrev pub interest_sent : ReportLine → ℤ
interest_sent l = l.interest +ℤ l.adj_interest

abbrev pub principal_sent : ReportLine → ℤ
principal_sent l = l.principal +ℤ l.adj_principal

-- a loan's line: what is due, the sums of its adjustments, and its balances
unfoldable pub text_of_line : ReportLine → List ℕ
text_of_line l = ended
    (numbered (codes "line ") l.loan ++ pair_field (codes "due") l.interest l.principal
    ++ pair_field (codes "adjusted") l.adj_interest l.adj_principal ++ balances l.upb l.balance)

-- an adjustment: the command that made it, the loan, the month that it is for, and its cents
unfoldable pub text_of_adjustment : Adjustment → List ℕ
text_of_adjustment a = ended
    (numbered (codes "adjust ") a.number ++ spaced (text_of_number a.loan)
    ++ spaced (text_of_month a.month) ++ pair a.interest a.principal)

-- what all lines send
unfoldable pub text_of_sent : List ReportLine → List ℕ
text_of_sent lines = ended
    (codes "total" ++ signed_field (codes "interest") (total_by interest_sent lines)
    ++ signed_field (codes "principal") (total_by principal_sent lines))

-- the report of a month: its lines, its adjustments in the order in which they were recorded, and what
-- all lines send
unfoldable pub text_of_report : Sealed → List ℕ
text_of_report r =
    text_of_heading (codes "report ") r.month (codes "lines") (length r.lines)
    ++ flat_map text_of_line r.lines ++ flat_map text_of_adjustment r.adjustments
    ++ text_of_sent r.lines ++ end_line

-- a loan's balances
unfoldable pub text_of_loan : ReportLine → List ℕ
text_of_loan l = ended (numbered (codes "loan ") l.loan ++ balances l.upb l.balance)

-- the balances of all loans
unfoldable pub text_of_all : List ReportLine → List ℕ
text_of_all lines = ended
    (codes "total"
    ++ balances (total_by (λ (l : ReportLine). l.upb) lines) (total_by (λ (l : ReportLine). l.balance) lines))

-- the trial balances of a month: those of each line of its report, and of all
unfoldable pub text_of_trial : Sealed → List ℕ
text_of_trial r =
    text_of_heading (codes "trial ") r.month (codes "loans") (length r.lines)
    ++ flat_map text_of_loan r.lines ++ text_of_all r.lines ++ end_line
