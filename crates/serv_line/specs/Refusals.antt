-- The texts of refusals: each one's code and name, and its value where there is one.
use Rattle.std.specs.Prelude.{ℕ, List, [], ◌∷◌, ◌++◌, Option, Some, None, codes}
use Rattle.svc_base.specs.Text.{text_of_number, text_of_amount, text_of_day, text_of_month}
use Rattle.svc_types.specs.declared.escrow.PlanPart.{PlanPart}
use Rattle.svc_types.specs.declared.escrow.PlanPart.TheVariants as part
use Rattle.svc_types.specs.declared.faults.LineWhy.{LineWhy}
use Rattle.svc_types.specs.declared.faults.LineWhy.TheVariants as why
use Rattle.svc_types.specs.declared.faults.PlanFault.{PlanFault}
use Rattle.svc_types.specs.declared.faults.PlanFault.TheVariants as plan
use Rattle.svc_types.specs.declared.faults.TermFault.{TermFault}
use Rattle.svc_types.specs.declared.faults.TermFault.TheVariants as term
use Rattle.svc_types.specs.declared.replies.Limit.{Limit}
use Rattle.svc_types.specs.declared.replies.Limit.TheVariants as limit
use Rattle.svc_types.specs.declared.replies.Refusal.{Refusal}
use Rattle.svc_types.specs.declared.replies.Refusal.TheVariants as refusal
use Rattle.serv_line.specs.Replies.{ended}

-- the code of a refusal; 26 is the journal's
abbrev pub code_of : Refusal → ℕ
code_of (refusal.KeyReused n) = 1
code_of (refusal.Full limit) = 2
code_of (refusal.DayNotLater d) = 3
code_of refusal.LoanExists = 4
code_of refusal.NoSuchLoan = 5
code_of (refusal.BadTerms f) = 6
code_of (refusal.BoardedLate m) = 7
code_of refusal.BadAmount = 8
code_of (refusal.FutureDated d) = 9
code_of (refusal.BeforeBoarding d) = 10
code_of (refusal.OverPrincipal z) = 11
code_of (refusal.PayoffShort z) = 12
code_of refusal.NoSuchEntry = 13
code_of (refusal.AlreadyReversed n) = 14
code_of refusal.NotReversible = 15
code_of refusal.NoSuchLine = 16
code_of (refusal.BadLine w) = 17
code_of (refusal.BadPlan f) = 18
code_of (refusal.OverRefund z) = 19
code_of (refusal.OverWaiver z) = 20
code_of (refusal.WrongPeriod m) = 21
code_of (refusal.NotEnded d) = 22
code_of (refusal.NotClosed m) = 23
code_of (refusal.WrongRemit m) = 24
code_of (refusal.AdjustmentsFull n) = 25
code_of (refusal.ClosedMonth m) = 27
code_of refusal.NoSuchCommand = 28

-- the name of a refusal
abbrev pub name_of_refusal : Refusal → List ℕ
name_of_refusal (refusal.KeyReused n) = codes "KeyReused"
name_of_refusal (refusal.Full limit) = codes "Full"
name_of_refusal (refusal.DayNotLater d) = codes "DayNotLater"
name_of_refusal refusal.LoanExists = codes "LoanExists"
name_of_refusal refusal.NoSuchLoan = codes "NoSuchLoan"
name_of_refusal (refusal.BadTerms f) = codes "BadTerms"
name_of_refusal (refusal.BoardedLate m) = codes "BoardedLate"
name_of_refusal refusal.BadAmount = codes "BadAmount"
name_of_refusal (refusal.FutureDated d) = codes "FutureDated"
name_of_refusal (refusal.BeforeBoarding d) = codes "BeforeBoarding"
name_of_refusal (refusal.OverPrincipal z) = codes "OverPrincipal"
name_of_refusal (refusal.PayoffShort z) = codes "PayoffShort"
name_of_refusal refusal.NoSuchEntry = codes "NoSuchEntry"
name_of_refusal (refusal.AlreadyReversed n) = codes "AlreadyReversed"
name_of_refusal refusal.NotReversible = codes "NotReversible"
name_of_refusal refusal.NoSuchLine = codes "NoSuchLine"
name_of_refusal (refusal.BadLine w) = codes "BadLine"
name_of_refusal (refusal.BadPlan f) = codes "BadPlan"
name_of_refusal (refusal.OverRefund z) = codes "OverRefund"
name_of_refusal (refusal.OverWaiver z) = codes "OverWaiver"
name_of_refusal (refusal.WrongPeriod m) = codes "WrongPeriod"
name_of_refusal (refusal.NotEnded d) = codes "NotEnded"
name_of_refusal (refusal.NotClosed m) = codes "NotClosed"
name_of_refusal (refusal.WrongRemit m) = codes "WrongRemit"
name_of_refusal (refusal.AdjustmentsFull n) = codes "AdjustmentsFull"
name_of_refusal (refusal.ClosedMonth m) = codes "ClosedMonth"
name_of_refusal refusal.NoSuchCommand = codes "NoSuchCommand"

-- what there is no more room for
abbrev pub text_of_limit : Limit → List ℕ
text_of_limit limit.Commands = codes "Commands"
text_of_limit limit.Loans = codes "Loans"
text_of_limit limit.Entries = codes "Entries"
text_of_limit limit.Lines = codes "Lines"
text_of_limit limit.Months = codes "Months"
text_of_limit limit.Types = codes "Types"

-- the range that terms miss, with its code
abbrev pub text_of_term_fault : TermFault → List ℕ
text_of_term_fault term.Principal = codes "1 Principal"
text_of_term_fault term.RateRange = codes "2 RateRange"
text_of_term_fault term.FeeRange = codes "3 FeeRange"
text_of_term_fault term.Payment = codes "4 Payment"
text_of_term_fault term.Term = codes "5 Term"
text_of_term_fault term.FirstDue = codes "6 FirstDue"
text_of_term_fault term.Grace = codes "7 Grace"
text_of_term_fault term.Late = codes "8 Late"
text_of_term_fault term.Cushion = codes "9 Cushion"
text_of_term_fault term.EscrowPay = codes "10 EscrowPay"

-- what is wrong with an escrow line, with its code
abbrev pub text_of_line_why : LineWhy → List ℕ
text_of_line_why why.Amount = codes "1 Amount"
text_of_line_why why.MonthRange = codes "2 MonthRange"
text_of_line_why why.Every = codes "3 Every"

-- a part of an analysis
abbrev pub text_of_plan_part : PlanPart → List ℕ
text_of_plan_part part.Surplus = codes "Surplus"
text_of_plan_part part.Short = codes "Short"
text_of_plan_part part.Deficient = codes "Deficient"

-- what is wrong with a plan, with its code; a surplus is never spread
abbrev pub text_of_plan_fault : PlanFault → List ℕ
text_of_plan_fault plan.MustRefund = codes "1 MustRefund"
text_of_plan_fault (plan.MustSpread part.Surplus) = codes "2 MustSpread Surplus"
text_of_plan_fault (plan.MustSpread part.Short) = codes "2 MustSpread Short"
text_of_plan_fault (plan.MustSpread part.Deficient) = codes "3 MustSpread Deficient"
text_of_plan_fault (plan.TooFewMonths n) = codes "4 TooFewMonths " ++ text_of_number n
text_of_plan_fault (plan.TooManyMonths n) = codes "5 TooManyMonths " ++ text_of_number n
text_of_plan_fault (plan.NothingToPlan p) = codes "6 NothingToPlan " ++ text_of_plan_part p

-- the last closed month, where there is one
abbrev pub text_of_closed : Option ℕ → List ℕ
text_of_closed None = codes "-"
text_of_closed (Some m) = text_of_month m

-- what stands after the name: a space and the value's text, where there is a value
abbrev pub text_of_cause : Refusal → List ℕ
text_of_cause (refusal.KeyReused n) = 32 ∷ text_of_number n
text_of_cause (refusal.Full limit) = 32 ∷ text_of_limit limit
text_of_cause (refusal.DayNotLater d) = 32 ∷ text_of_day d
text_of_cause refusal.LoanExists = []
text_of_cause refusal.NoSuchLoan = []
text_of_cause (refusal.BadTerms f) = 32 ∷ text_of_term_fault f
text_of_cause (refusal.BoardedLate m) = 32 ∷ text_of_month m
text_of_cause refusal.BadAmount = []
text_of_cause (refusal.FutureDated d) = 32 ∷ text_of_day d
text_of_cause (refusal.BeforeBoarding d) = 32 ∷ text_of_day d
text_of_cause (refusal.OverPrincipal z) = 32 ∷ text_of_amount z
text_of_cause (refusal.PayoffShort z) = 32 ∷ text_of_amount z
text_of_cause refusal.NoSuchEntry = []
text_of_cause (refusal.AlreadyReversed n) = 32 ∷ text_of_number n
text_of_cause refusal.NotReversible = []
text_of_cause refusal.NoSuchLine = []
text_of_cause (refusal.BadLine w) = 32 ∷ text_of_line_why w
text_of_cause (refusal.BadPlan f) = 32 ∷ text_of_plan_fault f
text_of_cause (refusal.OverRefund z) = 32 ∷ text_of_amount z
text_of_cause (refusal.OverWaiver z) = 32 ∷ text_of_amount z
text_of_cause (refusal.WrongPeriod m) = 32 ∷ text_of_month m
text_of_cause (refusal.NotEnded d) = 32 ∷ text_of_day d
text_of_cause (refusal.NotClosed m) = 32 ∷ text_of_closed m
text_of_cause (refusal.WrongRemit m) = 32 ∷ text_of_month m
text_of_cause (refusal.AdjustmentsFull n) = 32 ∷ text_of_number n
text_of_cause (refusal.ClosedMonth m) = 32 ∷ text_of_month m
text_of_cause refusal.NoSuchCommand = []

-- the code and the name of a refusal
abbrev pub text_of_named : Refusal → List ℕ
text_of_named r = codes "no " ++ text_of_number (code_of r) ++ codes " " ++ name_of_refusal r

-- the reply to a request that is refused
unfoldable pub text_of_refusal : Refusal → List ℕ
text_of_refusal r = ended (text_of_named r ++ text_of_cause r)
