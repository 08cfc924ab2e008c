-- Why a request is refused: for each request the rules in their order, of which the first that holds is
-- the answer.
use Rattle.std.specs.Prelude.{ℕ, ◌+◌, ◌==◌, ◌&&◌, not, nat_le, nat_lt, Bool, true, false, is_some, List, [], ◌∷◌, ◌++◌, length, ℤ, pos, int_lt, Option, Some, None, min}
use Rattle.std.specs.List.{find, filter, list_any}
use Rattle.std.specs.Option.{option_map, option_map_or}
use Rattle.svc_base.specs.Calendar.{month_of, last_day}
use Rattle.svc_types.specs.declared.terms.Terms.{Terms}
use Rattle.svc_types.specs.declared.account.Act.{Act}
use Rattle.svc_types.specs.declared.account.Act.TheVariants.{Analyse}
use Rattle.svc_types.specs.declared.account.Entry.{Entry}
use Rattle.svc_types.specs.declared.escrow.Plan.{Plan}
use Rattle.svc_types.specs.declared.requests.Command.{Command}
use Rattle.svc_types.specs.declared.requests.Command.TheVariants as command
use Rattle.svc_types.specs.declared.replies.Refusal.{Refusal}
use Rattle.svc_types.specs.declared.replies.Refusal.TheVariants.{Full, DayNotLater, LoanExists, NoSuchLoan, BadTerms, BoardedLate, BadAmount, FutureDated, BeforeBoarding, OverPrincipal, PayoffShort, NoSuchEntry, AlreadyReversed, NotReversible, NoSuchLine, BadLine, BadPlan, OverRefund, OverWaiver, WrongPeriod, NotEnded, NotClosed, WrongRemit, AdjustmentsFull, ClosedMonth}
use Rattle.svc_types.specs.declared.replies.Limit.TheVariants.{Commands, Loans, Entries, Lines, Months, Types}
use Rattle.svc_types.specs.Terms.{term_fault, is_between}
use Rattle.svc_spec.specs.Accounts.{books_of, entry_of, reverser_of}
use Rattle.svc_spec.specs.Payoff.{payoff_due, available}
use Rattle.escrow_lines.specs.declared.line.Line.{Line}
use Rattle.escrow_lines.specs.Bills.{line_fault}
use Rattle.escrow_lines.specs.BillLists.{has_id}
use Rattle.period_adjust.specs.Sealed.{Sealed}
use Rattle.period_adjust.specs.Conditions.{first_month, last_month, count_held}
use Rattle.period_adjust.specs.Kept.{next_remit}
use Rattle.svc_world.specs.Held.{Held, find_loan, boarded_month, books_now}
use Rattle.svc_world.specs.Analysing.{loan_plan_fault}
use Rattle.svc_world.specs.World.{World}
use Rattle.svc_world.specs.declared.scope.Scope.{Scope}
use Rattle.svc_world.specs.declared.scope.Scope.TheVariants.{One, New, Every}
use Rattle.svc_world.specs.Scope.{scope_of}

-- a rule: where it holds, the request is refused for that cause
pub record Case : Type 0 where
  pub holds : Bool
  pub why : Refusal

abbrev pub case : Bool → Refusal → Case
case holds why = record { holds = holds; why = why }

-- a rule that holds where there is a fault, which it names
abbrev pub case_of : {A : Type 0} → (A → Refusal) → Option A → List Case
case_of why None = []
case_of why (Some fault) = case true (why fault) ∷ []

-- the cause of the first rule that holds
abbrev pub first_of : List Case → Option Refusal
first_of cases = option_map (λ (c : Case). c.why) (find (λ (c : Case). c.holds) cases)

-- the rules on a loan; where it is not there, that is the cause
abbrev pub on_loan : World → ℕ → (Held → List Case) → List Case
on_loan w id rules = option_map_or rules (find_loan id w.loans) (case true NoSuchLoan ∷ [])

-- ---- rules that several requests have

abbrev pub full_of_commands : ℕ → Case
full_of_commands n = case (nat_le 1_000_000 n) (Full Commands)

abbrev pub full_of_entries : Held → Case
full_of_entries l = case (nat_le 4_096 (length l.account.entries)) (Full Entries)

-- an amount is from 1 to 10^10 cents
abbrev pub bad_amount : ℤ → Case
bad_amount c = case (not (is_between (pos 1) (pos 10_000_000_000) c)) BadAmount

abbrev pub future_dated : World → ℕ → Case
future_dated w day = case (nat_lt w.today day) (FutureDated w.today)

abbrev pub before_boarding : Held → ℕ → Case
before_boarding l day = case (nat_lt day l.account.terms.boarded) (BeforeBoarding l.account.terms.boarded)

-- the closed months from a month on
abbrev pub closed_from : List Sealed → ℕ → ℕ
closed_from reports month = length (filter (λ (r : Sealed). nat_le month r.month) reports)

-- an adjustment for each closed month from a month on would be too many
abbrev pub adjustments_full : World → ℕ → Case
adjustments_full w month =
    case (nat_lt 4_000_000 (count_held w.seals + closed_from w.seals.reports month))
    (AdjustmentsFull (count_held w.seals))

-- the month is at or before the last closed one
abbrev pub is_closed_by : Option ℕ → ℕ → Bool
is_closed_by None month = false
is_closed_by (Some last) month = nat_le month last

-- what is refused with the last closed month as its value
abbrev pub with_last : (ℕ → Refusal) → World → ℕ → List Case
with_last why w month =
    option_map_or (λ last. case (nat_le month last) (why last) ∷ []) (last_month w.seals.reports) []

-- the month is after the last closed one, or none is closed
abbrev pub not_closed : World → ℕ → Case
not_closed w month =
    case (not (is_closed_by (last_month w.seals.reports) month)) (NotClosed (last_month w.seals.reports))

-- ---- the rules of each kind of entry

-- an entry of a day: its amount, its day, and what its act asks
abbrev pub dated_cases : World → ℕ → ℤ → (Held → Case) → Held → List Case
dated_cases w day c own l =
    full_of_entries l ∷ bad_amount c ∷ future_dated w day ∷ before_boarding l day ∷ own l
    ∷ adjustments_full w (month_of day) ∷ []

-- an entry of the business day
abbrev pub present_cases : World → ℤ → (Held → Case) → Held → List Case
present_cases w c own l =
    full_of_entries l ∷ bad_amount c ∷ own l ∷ adjustments_full w (month_of w.today) ∷ []

-- a payment and a deposit ask no more
abbrev pub asks_no_more : Held → Case
asks_no_more l = case false NoSuchLoan

-- a curtailment is at most the balance of its day
abbrev pub over_principal : ℕ → ℤ → Held → Case
over_principal day c l = case (int_lt (books_of l.account day).upb c) (OverPrincipal (books_of l.account day).upb)

-- the payoff due on a day
abbrev pub payoff_due_on : Held → ℕ → ℤ
payoff_due_on l day = payoff_due l.account.terms day (books_of l.account day)

abbrev pub payoff_short : ℕ → ℤ → Held → Case
payoff_short day c l = case (int_lt c (payoff_due_on l day)) (PayoffShort (payoff_due_on l day))

abbrev pub has_line : ℕ → Held → Bool
has_line id l = list_any (has_id id) l.lines

abbrev pub no_such_line : ℕ → Held → Case
no_such_line id l = case (not (has_line id l)) NoSuchLine

abbrev pub over_refund : ℤ → Held → Case
over_refund c l = case (int_lt (available (books_now l)) c) (OverRefund (available (books_now l)))

abbrev pub over_waiver : ℤ → Held → Case
over_waiver c l = case (int_lt (books_now l).late_owed c) (OverWaiver (books_now l).late_owed)

abbrev pub analyse_cases : World → Plan → Held → List Case
analyse_cases w plan l =
    full_of_entries l ∷ (case_of BadPlan (loan_plan_fault l plan) ++ (adjustments_full w (month_of w.today) ∷ []))

-- ---- the rules of the other commands

abbrev pub is_analysis : Act → Bool
is_analysis (Analyse s) = true
is_analysis a = false

abbrev pub entry_reversal_cases : World → Option ℕ → Option Entry → List Case
entry_reversal_cases w reverser None = case true NoSuchEntry ∷ []
entry_reversal_cases w reverser (Some e) =
    case_of AlreadyReversed reverser
    ++ (case (is_analysis e.act) NotReversible ∷ adjustments_full w (month_of e.day) ∷ [])

abbrev pub reversal_cases : World → ℕ → Held → List Case
reversal_cases w number l = entry_reversal_cases w (reverser_of l.account number) (entry_of l.account number)

-- a loan has at most 16 lines
abbrev pub line_cases : Line → Held → List Case
line_cases line l =
    case (not (has_line line.id l) && nat_le 16 (length l.lines)) (Full Lines) ∷ case_of BadLine (line_fault line)

-- a loan has at most 64 changes of type, and none of a closed month
abbrev pub retype_cases : World → ℕ → Held → List Case
retype_cases w from l =
    case (nat_le 64 (length l.types)) (Full Types)
    ∷ case (nat_lt from (boarded_month l)) (BeforeBoarding l.account.terms.boarded)
    ∷ with_last ClosedMonth w from

abbrev pub board_cases : World → ℕ → Terms → List Case
board_cases w id t =
    case (nat_le 12_000 (length w.loans)) (Full Loans)
    ∷ case (is_some (find_loan id w.loans)) LoanExists
    ∷ (case_of BadTerms (term_fault t) ++ (with_last BoardedLate w (month_of t.boarded)
    ++ (future_dated w t.boarded ∷ [])))

-- the earlier of two months
abbrev pub least_boarded : ℕ → List Held → ℕ
least_boarded month [] = month
least_boarded month (l ∷ ls) = least_boarded (min month (boarded_month l)) ls

-- the least boarded month, or a month where no loan is there
abbrev pub first_expected : ℕ → List Held → ℕ
first_expected month [] = month
first_expected month (l ∷ ls) = least_boarded (boarded_month l) ls

-- the month that is to be closed next: the one after the last closed; else the least boarded month; else
-- the business day's
abbrev pub expected_close : World → ℕ
expected_close w =
    option_map_or (λ last. last + 1) (last_month w.seals.reports) (first_expected (month_of w.today) w.loans)

abbrev pub close_cases : World → ℕ → List Case
close_cases w p =
    case (nat_le 600 (length w.seals.reports)) (Full Months)
    ∷ case (not (p == expected_close w)) (WrongPeriod (expected_close w))
    ∷ case (nat_le w.today (last_day p)) (NotEnded (last_day p)) ∷ []

-- the month that is to be remitted next: the one after the last remitted, else the first closed
abbrev pub expected_remit : World → ℕ
expected_remit w = next_remit w.remitted w.seals.reports

abbrev pub remit_cases : World → ℕ → List Case
remit_cases w p =
    not_closed w p ∷ case (not (p == expected_remit w)) (WrongRemit (expected_remit w)) ∷ []

-- ---- all commands, by what they change

-- a command on one loan that is there
abbrev pub rules_of : World → Command → Held → List Case
rules_of w (command.Pay id d c over) = dated_cases w d c asks_no_more
rules_of w (command.Curtail id d c) = dated_cases w d c (over_principal d c)
rules_of w (command.Payoff id d c) = dated_cases w d c (payoff_short d c)
rules_of w (command.Deposit id d c) = dated_cases w d c asks_no_more
rules_of w (command.Disburse id d c line) = dated_cases w d c (no_such_line line)
rules_of w (command.Refund id c) = present_cases w c (over_refund c)
rules_of w (command.Waive id c) = present_cases w c (over_waiver c)
rules_of w (command.Reverse id number) = reversal_cases w number
rules_of w (command.Line id line kind month every c) =
    line_cases (record { id = line; kind = kind; month = month; every = every; cents = c })
rules_of w (command.Drop id line) = λ l. no_such_line line l ∷ []
rules_of w (command.Analyse id plan) = analyse_cases w plan
rules_of w (command.Retype id from kind) = retype_cases w from
rules_of w c = λ l. []

-- a command on all loans
abbrev pub rules_for_all : World → Command → List Case
rules_for_all w (command.Day d) = case (nat_le d w.today) (DayNotLater w.today) ∷ []
rules_for_all w (command.Close p) = close_cases w p
rules_for_all w (command.Remit p) = remit_cases w p
rules_for_all w c = []

abbrev pub cases_by_scope : World → Command → Scope → List Case
cases_by_scope w c (One id) = on_loan w id (rules_of w c)
cases_by_scope w c (New id t) = board_cases w id t
cases_by_scope w c Every = rules_for_all w c

abbrev pub cases_by_command : World → Command → List Case
cases_by_command w c = cases_by_scope w c (scope_of c)

-- why a command is refused after n accepted ones
unfoldable pub refusal_of : ℕ → World → Command → Option Refusal
refusal_of n w c = first_of (full_of_commands n ∷ cases_by_command w c)

-- ---- rules of queries

-- the month is before the first closed one
abbrev pub is_before_first : Option ℕ → ℕ → Bool
is_before_first None month = false
is_before_first (Some first) month = nat_lt month first

-- a report is there for the closed months alone
abbrev pub report_cases : World → ℕ → List Case
report_cases w p =
    not_closed w p
    ∷ case (is_before_first (first_month w.seals.reports) p) (NotClosed (last_month w.seals.reports)) ∷ []

abbrev pub day_cases : World → ℕ → Held → List Case
day_cases w d l = future_dated w d ∷ before_boarding l d ∷ []
