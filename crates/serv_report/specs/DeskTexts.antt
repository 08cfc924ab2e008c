-- The texts of what the desk is told: a loan's terms, its history, a quote, arrears, who is late, where the books
-- stand, and a command with its reply.
use Rattle.std.specs.Prelude.{ℕ, ℤ, pos, List, [], ◌∷◌, ◌++◌, Option, Some, None, length, codes}
use Rattle.std.specs.List.{flat_map}
use Rattle.svc_base.specs.Text.{text_of_number, text_of_amount, text_of_day, text_of_month}
use Rattle.svc_types.specs.declared.account.Act.{Act}
use Rattle.svc_types.specs.declared.account.Act.TheVariants.{Pay, Curtail, Payoff, Deposit, Disburse, Refund, Waive, Analyse}
use Rattle.svc_types.specs.declared.account.Designation.{Designation}
use Rattle.svc_types.specs.declared.account.Designation.TheVariants as over
use Rattle.svc_types.specs.declared.account.What.{What}
use Rattle.svc_types.specs.declared.account.What.TheVariants as what
use Rattle.svc_types.specs.declared.desk.Arrears.{Arrears}
use Rattle.svc_types.specs.declared.desk.HistoryLine.{HistoryLine}
use Rattle.svc_types.specs.declared.replies.Reply.{Reply}
use Rattle.svc_types.specs.declared.requests.Command.{Command}
use Rattle.svc_types.specs.declared.requests.Request.TheVariants as request
use Rattle.svc_types.specs.declared.requests.TypeChange.{TypeChange}
use Rattle.svc_types.specs.declared.terms.Terms.{Terms}
use Rattle.svc_forms.specs.Values.{text_of_value}
use Rattle.svc_forms.specs.declared.value.Value.{Value}
use Rattle.svc_forms.specs.declared.value.Value.TheVariants as value
use Rattle.escrow_lines.specs.declared.line.Line.{Line}
use Rattle.svc_world.specs.declared.desk.LateLoan.{LateLoan}
use Rattle.svc_world.specs.declared.desk.AgingCounts.{AgingCounts}
use Rattle.svc_world.specs.declared.desk.BooksStatus.{BooksStatus}
use Rattle.serv_line.specs.Lines.{line_of, text_of_values}
use Rattle.serv_line.specs.Replies.{ended, number_field, amount_field, signed_field, text_of_reply}
use Rattle.serv_report.specs.Texts.{spaced, numbered, on_day, end_line, text_of_next}

-- a name and a value, a space before each
abbrev pub field : List ℕ → Value → List ℕ
field name v = spaced name ++ spaced (text_of_value v)

-- a name and a month, or a dash
abbrev pub month_field : List ℕ → Option ℕ → List ℕ
month_field name None = spaced name ++ codes " -"
month_field name (Some m) = spaced name ++ spaced (text_of_month m)

-- ---- a loan's terms

unfoldable pub text_of_boarding : ℕ → Terms → List ℕ
text_of_boarding loan t =
    numbered (codes "loan ") loan ++ field (codes "boarded") (value.Day t.boarded)
    ++ field (codes "principal") (value.Amount t.principal) ++ field (codes "rate") (value.Number t.rate)
    ++ field (codes "fee") (value.Number t.fee)

unfoldable pub text_of_installments : Terms → List ℕ
text_of_installments t =
    field (codes "pi") (value.Amount t.pi) ++ field (codes "term") (value.Number t.term)
    ++ field (codes "first") (value.Month t.first) ++ field (codes "grace") (value.Number t.grace)
    ++ field (codes "late") (value.Number t.late)

unfoldable pub text_of_escrow_terms : Terms → List ℕ
text_of_escrow_terms t =
    field (codes "cushion") (value.Number t.cushion) ++ field (codes "escrow") (value.Amount t.escrow)
    ++ field (codes "type") (value.Type t.kind)

unfoldable pub text_of_terms : ℕ → Terms → List ℕ
text_of_terms loan t = ended (text_of_boarding loan t ++ text_of_installments t ++ text_of_escrow_terms t)

-- an escrow line, as it was set
unfoldable pub text_of_bill : Line → List ℕ
text_of_bill l = ended
    (codes "line"
    ++ text_of_values (value.Number l.id ∷ value.Kind l.kind ∷ value.Number l.month ∷ value.Number l.every ∷ value.Amount l.cents ∷ []))

-- a change of remittance type
unfoldable pub text_of_change : TypeChange → List ℕ
text_of_change c = ended (codes "type" ++ text_of_values (value.Month c.from ∷ value.Type c.kind ∷ []))

unfoldable pub text_of_loan_terms : ℕ → Terms → List Line → List TypeChange → List ℕ
text_of_loan_terms loan t lines types =
    text_of_terms loan t ++ flat_map text_of_bill lines ++ flat_map text_of_change types ++ end_line

-- ---- a loan's history

-- the word of a payment
abbrev pub word_of_pay : Designation → List ℕ
word_of_pay over.Regular = codes "pay"
word_of_pay over.Principal = codes "pay-principal"
word_of_pay over.Escrow = codes "pay-escrow"

-- the word of what happened
abbrev pub word_of_act : Act → List ℕ
word_of_act (Pay c to) = word_of_pay to
word_of_act (Curtail c) = codes "curtail"
word_of_act (Payoff c) = codes "payoff"
word_of_act (Deposit c) = codes "deposit"
word_of_act (Disburse c line) = codes "disburse"
word_of_act (Refund c) = codes "refund"
word_of_act (Waive c) = codes "waive"
word_of_act (Analyse s) = codes "analyse"

abbrev pub word_of_what : What → List ℕ
word_of_what what.MonthMark = codes "month"
word_of_what (what.LateMark k) = codes "late-charge"
word_of_what (what.Act a) = word_of_act a

-- its amount: the entry's, of an analysis its refund, and of a mark none
abbrev pub amount_of_act : Act → ℤ
amount_of_act (Pay c to) = c
amount_of_act (Curtail c) = c
amount_of_act (Payoff c) = c
amount_of_act (Deposit c) = c
amount_of_act (Disburse c line) = c
amount_of_act (Refund c) = c
amount_of_act (Waive c) = c
amount_of_act (Analyse s) = s.refund

abbrev pub amount_of_what : What → ℤ
amount_of_what what.MonthMark = pos 0
amount_of_what (what.LateMark k) = pos 0
amount_of_what (what.Act a) = amount_of_act a

-- the number of an entry, or a dash
abbrev pub text_of_number_or : Option ℕ → List ℕ
text_of_number_or None = codes " -"
text_of_number_or (Some n) = spaced (text_of_number n)

unfoldable pub text_of_place : HistoryLine → List ℕ
text_of_place l = codes "event " ++ text_of_day l.day ++ text_of_number_or l.number

unfoldable pub text_of_what : HistoryLine → List ℕ
text_of_what l = text_of_place l ++ spaced (word_of_what l.what) ++ spaced (text_of_amount (amount_of_what l.what))

-- what it changed
unfoldable pub text_of_applied : HistoryLine → List ℕ
text_of_applied l =
    signed_field (codes "interest") l.interest ++ signed_field (codes "principal") l.principal
    ++ signed_field (codes "escrow") l.escrow

unfoldable pub text_of_waiting : HistoryLine → List ℕ
text_of_waiting l =
    signed_field (codes "late") l.late ++ signed_field (codes "charges") l.charges
    ++ signed_field (codes "suspense") l.suspense

unfoldable pub text_of_event : HistoryLine → List ℕ
text_of_event l = ended
    (text_of_what l ++ text_of_applied l ++ text_of_waiting l ++ amount_field (codes "upb") l.upb
    ++ text_of_next l.next)

-- an entry that was reversed, and what reversed it
unfoldable pub text_of_reversed : ℕ × ℕ → List ℕ
text_of_reversed r = ended (numbered (codes "reversed ") r.0 ++ spaced (text_of_number r.1))

unfoldable pub text_of_history_head : ℕ → ℕ → ℕ → List ℕ
text_of_history_head loan day n = ended (on_day (codes "history ") loan day ++ number_field (codes "events") n)

unfoldable pub text_of_history : ℕ → ℕ → List HistoryLine → List (ℕ × ℕ) → List ℕ
text_of_history loan day lines reversed =
    text_of_history_head loan day (length lines) ++ flat_map text_of_event lines
    ++ flat_map text_of_reversed reversed ++ end_line

-- ---- a quote, and arrears

unfoldable pub text_of_quote : ℕ → ℕ → ℤ → ℤ → List ℕ
text_of_quote loan day cents perday = ended
    (on_day (codes "quote ") loan day ++ spaced (text_of_amount cents) ++ amount_field (codes "perday") perday)

-- what brings a loan current
unfoldable pub text_of_owed : Arrears → List ℕ
text_of_owed a =
    number_field (codes "installments") a.installments ++ amount_field (codes "due") a.due
    ++ amount_field (codes "suspense") a.suspense ++ amount_field (codes "pay") a.pay
    ++ amount_field (codes "late") a.late

unfoldable pub text_of_arrears : ℕ → ℕ → Arrears → List ℕ
text_of_arrears loan day a = ended (on_day (codes "arrears ") loan day ++ text_of_owed a)

-- ---- who is late

unfoldable pub text_of_late : LateLoan → List ℕ
text_of_late l = ended
    (numbered (codes "late ") l.loan ++ text_of_next (Some l.next) ++ number_field (codes "days") l.days
    ++ text_of_owed l.arrears)

unfoldable pub text_of_late_counts : AgingCounts → List ℕ
text_of_late_counts c =
    number_field (codes "late1") c.late1 ++ number_field (codes "late30") c.late30
    ++ number_field (codes "late60") c.late60 ++ number_field (codes "late90") c.late90

unfoldable pub text_of_counts : AgingCounts → List ℕ
text_of_counts c = ended
    (codes "total" ++ number_field (codes "current") c.current ++ text_of_late_counts c
    ++ number_field (codes "satisfied") c.satisfied)

unfoldable pub text_of_aging_head : ℕ → ℕ → List ℕ
text_of_aging_head day n = ended (codes "aging " ++ text_of_day day ++ number_field (codes "loans") n)

unfoldable pub text_of_aging : ℕ → List LateLoan → AgingCounts → List ℕ
text_of_aging day late counts =
    text_of_aging_head day (length late) ++ flat_map text_of_late late ++ text_of_counts counts ++ end_line

-- ---- where the books stand

unfoldable pub text_of_held : BooksStatus → List ℕ
text_of_held s =
    codes "status " ++ text_of_day s.today ++ number_field (codes "loans") s.loans
    ++ number_field (codes "commands") s.commands

unfoldable pub text_of_months : BooksStatus → List ℕ
text_of_months s =
    month_field (codes "closed") s.closed ++ month_field (codes "remitted") s.remitted
    ++ month_field (codes "close") (Some s.close) ++ month_field (codes "remit") s.remit

unfoldable pub text_of_status : BooksStatus → List ℕ
text_of_status s = ended
    (text_of_held s ++ text_of_months s ++ number_field (codes "pending") s.pending
    ++ number_field (codes "adjustments") s.adjustments)

-- ---- a command and its reply

unfoldable pub text_of_posting : List ℕ → Command → Reply → List ℕ
text_of_posting key c r =
    ended (numbered (codes "command ") r.number) ++ ended (codes "line " ++ line_of (request.Do key c))
    ++ codes "reply " ++ text_of_reply r ++ end_line
