-- Loans that were worked out by hand: 200,000.00 at 6%, of which 0.25% is the servicing fee, with a level
-- payment of 1,199.10 over 30 years; and what is looked at after some commands.
use Rattle.std.specs.Prelude.{ℕ, ◌+◌, List, [], ◌∷◌, ◌++◌, map, length, ℤ, pos, Option}
use Rattle.std.specs.Option.{option_map}
use Rattle.svc_types.specs.declared.terms.Terms.{Terms}
use Rattle.svc_types.specs.declared.terms.RemitType.{RemitType}
use Rattle.svc_types.specs.declared.terms.RemitType.TheVariants as remit
use Rattle.svc_types.specs.WorkedLoan.{month_at, day_at, loan_with}
use Rattle.svc_types.specs.declared.escrow.LineKind.TheVariants as line_kind
use Rattle.svc_types.specs.declared.escrow.SurplusPlan.{SurplusPlan}
use Rattle.svc_types.specs.declared.escrow.PartPlan.TheVariants as part_plan
use Rattle.svc_types.specs.declared.escrow.Plan.{Plan}
use Rattle.svc_types.specs.declared.requests.Command.{Command}
use Rattle.svc_types.specs.declared.requests.Command.TheVariants as command
use Rattle.svc_types.specs.declared.account.Designation.{Designation}
use Rattle.svc_types.specs.declared.account.Designation.TheVariants as over
use Rattle.svc_types.specs.declared.replies.Extra.{Extra}
use Rattle.svc_types.specs.declared.replies.Refusal.{Refusal}
use Rattle.period_adjust.specs.declared.adjustment.Adjustment.{Adjustment}
use Rattle.custodial_book.specs.declared.row.Row.{Row}
use Rattle.custodial_book.specs.declared.part.Part.{Part}
use Rattle.custodial_book.specs.Rows.{rows_of_command}
use Rattle.svc_world.specs.declared.custody.Custody.{Custody}
use Rattle.svc_world.specs.Held.{Held, find_loan, books_now}
use Rattle.svc_world.specs.World.{World, Accepted, accepted, world}
use Rattle.svc_world.specs.Refusals.{refusal_of}
use Rattle.svc_world.specs.Judging.{next_reply}
use Rattle.svc_world.specs.Custody.{rows_in, custody_of}

-- the loan, boarded in December 2023 and first due in February 2024
abbrev pub loan_of : RemitType → Terms
loan_of kind = loan_with kind 250 360

-- a payment of an installment, and another amount
abbrev pub pays : ℕ → ℤ → Command
pays day c = command.Pay 1 day c over.Regular

-- a payment with a designation
abbrev pub pays_to : ℕ → ℤ → Designation → Command
pays_to day c to = command.Pay 1 day c to

-- commands as they are accepted, each under a key of its own
abbrev pub keyed_from : ℕ → List Command → List Accepted
keyed_from n [] = []
keyed_from n (c ∷ cs) = accepted (n ∷ []) c ∷ keyed_from (n + 1) cs

abbrev pub history_of : List Command → List Accepted
history_of cs = keyed_from 1 cs

abbrev pub world_of : List Command → World
world_of cs = world (history_of cs)

-- why a command is refused after these
abbrev pub refused_after : List Command → Command → Option Refusal
refused_after cs c = refusal_of (length cs) (world_of cs) c

-- what the reply to one more command says
abbrev pub said_after : List Command → Command → Extra
said_after cs c = (next_reply (history_of cs) c).extra

-- the parts and cents of the rows of the last of these commands
abbrev pub rows_after : List Command → List (Part × ℤ)
rows_after cs = map (λ (r : Row). (r.part, r.cents)) (rows_of_command (length cs) (rows_in (history_of cs)))

-- the pending adjustments: months, interest and principal
abbrev pub pending_after : List Command → List (ℕ × ℤ × ℤ)
pending_after cs = map (λ (a : Adjustment). (a.month, a.interest, a.principal)) (world_of cs).seals.pending

abbrev pub custody_after : List Command → Custody
custody_after cs = custody_of (world_of cs)

-- a loan's balance, its open installment, what is not yet applied and the late charges that are owed
abbrev pub left_after : List Command → ℕ → Option (ℤ × ℕ × ℤ × ℤ)
left_after cs id =
    option_map (λ (l : Held). ((books_now l).upb, (books_now l).next, (books_now l).suspense, (books_now l).late_owed))
    (find_loan id (world_of cs).loans)

-- the interest, the fee in it and the principal that were collected of a loan
abbrev pub taken_after : List Command → ℕ → Option (ℤ × ℤ × ℤ)
taken_after cs id =
    option_map (λ (l : Held). ((books_now l).interest, (books_now l).fee, (books_now l).principal))
    (find_loan id (world_of cs).loans)

-- a loan's escrow balance
abbrev pub escrow_after : List Command → ℕ → Option ℤ
escrow_after cs id = option_map (λ (l : Held). (books_now l).escrow) (find_loan id (world_of cs).loans)

-- the business day 2024-02-01, and the loan
abbrev pub taken_on : RemitType → List Command
taken_on kind = command.Day (day_at 2024 2 1) ∷ command.Board 1 (loan_of kind) ∷ []

-- and its first installment
abbrev pub first_paid : RemitType → List Command
first_paid kind = taken_on kind ++ pays (day_at 2024 2 1) (pos 119_910) ∷ []

-- on 2024-04-01 the months to March are closed
abbrev pub closed_to_march : RemitType → List Command
closed_to_march kind =
    first_paid kind ++ command.Day (day_at 2024 4 1) ∷ command.Close (month_at 2023 12)
    ∷ command.Close (month_at 2024 1) ∷ command.Close (month_at 2024 2) ∷ command.Close (month_at 2024 3) ∷ []

-- and remitted
abbrev pub remitted_to_march : RemitType → List Command
remitted_to_march kind =
    closed_to_march kind ++ command.Remit (month_at 2023 12) ∷ command.Remit (month_at 2024 1)
    ∷ command.Remit (month_at 2024 2) ∷ command.Remit (month_at 2024 3) ∷ []

-- both installments are paid on 2024-03-01; four months are closed and remitted
abbrev pub paid_in_time : RemitType → List Command
paid_in_time kind =
    command.Day (day_at 2024 3 1) ∷ command.Board 1 (loan_of kind) ∷ pays (day_at 2024 2 1) (pos 119_910)
    ∷ pays (day_at 2024 3 1) (pos 119_910) ∷ command.Day (day_at 2024 4 1) ∷ command.Close (month_at 2023 12)
    ∷ command.Close (month_at 2024 1) ∷ command.Close (month_at 2024 2) ∷ command.Close (month_at 2024 3)
    ∷ command.Remit (month_at 2023 12) ∷ command.Remit (month_at 2024 1) ∷ command.Remit (month_at 2024 2)
    ∷ command.Remit (month_at 2024 3) ∷ []

-- the first of the two is reversed
abbrev pub then_reversed : RemitType → List Command
then_reversed kind = paid_in_time kind ++ command.Reverse 1 3 ∷ []

-- the loan is paid off on 2024-02-16
abbrev pub then_payoff_day : RemitType → List Command
then_payoff_day kind = first_paid kind ++ command.Day (day_at 2024 2 16) ∷ []

abbrev pub paid_off : RemitType → List Command
paid_off kind = then_payoff_day kind ++ command.Payoff 1 (day_at 2024 2 16) (pos 20_030_040) ∷ []

-- and the months to February are closed and remitted
abbrev pub paid_off_closed : RemitType → List Command
paid_off_closed kind =
    paid_off kind ++ command.Day (day_at 2024 3 1) ∷ command.Close (month_at 2023 12)
    ∷ command.Close (month_at 2024 1) ∷ command.Close (month_at 2024 2) ∷ []

abbrev pub paid_off_remitted : RemitType → List Command
paid_off_remitted kind =
    paid_off_closed kind ++ command.Remit (month_at 2023 12) ∷ command.Remit (month_at 2024 1)
    ∷ command.Remit (month_at 2024 2) ∷ []

-- a payoff that is taken back after its month was remitted
abbrev pub payoff_reversed : RemitType → List Command
payoff_reversed kind = paid_off_remitted kind ++ command.Reverse 1 5 ∷ []

-- a loan that is boarded in June with 130.00 a month for escrow
abbrev pub escrow_loan : Terms
escrow_loan = record (loan_of remit.AA) {
  boarded = day_at 2024 6 1;
  first = month_at 2024 7;
  escrow = pos 13_000;
}

-- a tax line of a loan, once a year in a month
abbrev pub tax_line : ℕ → ℕ → ℕ → ℤ → Command
tax_line loan line month c = command.Line loan line line_kind.Tax month 12 c

-- three bills a year, and a deposit before the first installment
abbrev pub three_bills : List Command
three_bills =
    command.Day (day_at 2024 6 15) ∷ command.Board 2 escrow_loan ∷ tax_line 2 1 7 (pos 50_000)
    ∷ tax_line 2 2 9 (pos 36_000) ∷ tax_line 2 3 12 (pos 70_000)
    ∷ command.Deposit 2 (day_at 2024 6 10) (pos 109_000) ∷ []

-- what is done with the parts of an analysis
abbrev pub surplus_to : SurplusPlan → Plan
surplus_to choice = record { surplus = choice; short = part_plan.Unsaid; deficient = part_plan.Unsaid }

-- two loans, of which one has a bill that its escrow does not cover
abbrev pub bill_due : List Command
bill_due =
    command.Day (day_at 2024 6 15) ∷ command.Board 2 escrow_loan ∷ command.Board 3 escrow_loan
    ∷ tax_line 2 1 7 (pos 200_000) ∷ command.Deposit 2 (day_at 2024 6 10) (pos 150_000)
    ∷ command.Deposit 3 (day_at 2024 6 10) (pos 30_000) ∷ []

abbrev pub bill_paid : List Command
bill_paid = bill_due ++ command.Disburse 2 (day_at 2024 6 12) (pos 200_000) 1 ∷ []

abbrev pub bill_covered : List Command
bill_covered = bill_paid ++ command.Deposit 2 (day_at 2024 6 14) (pos 60_000) ∷ []

-- from April on the loan is remitted by another type, and April is closed
abbrev pub retyped_to : RemitType → List Command
retyped_to kind =
    remitted_to_march remit.AA ++ command.Day (day_at 2024 5 1) ∷ command.Retype 1 (month_at 2024 4) kind ∷ []

abbrev pub april_remitted : List Command
april_remitted =
    retyped_to remit.SA ++ command.Close (month_at 2024 4) ∷ command.Remit (month_at 2024 4) ∷ []
