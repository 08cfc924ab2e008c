-- The generated year: what is asked for, in order, by the number of loans and the number that the draws begin with.
use Rattle.std.specs.Prelude.{ℕ, zero, suc, ◌+◌, ◌-◌, ◌*◌, ◌%◌, ◌==◌, ◌||◌, List, [], ◌∷◌, ◌++◌, pos, if◌then◌else◌}
use Rattle.svc_base.specs.Calendar.{first_day}
use Rattle.svc_types.specs.declared.account.Designation.TheVariants.{Regular}
use Rattle.svc_types.specs.declared.terms.RemitType.{RemitType}
use Rattle.svc_types.specs.declared.terms.RemitType.TheVariants.{AA, SA, SS}
use Rattle.svc_types.specs.declared.terms.Terms.{Terms}
use Rattle.svc_types.specs.declared.requests.Command.{Command}
use Rattle.svc_types.specs.declared.requests.Command.TheVariants as command
use Rattle.serv_drill.specs.Draws.{state_after, draw}

-- what is asked for: a command, or that the last payment of a loan be taken back
pub data Work : Type 0 where
  Do : Command → Work
  TakeBack : ℕ → Work

-- what each index below n gives, in order: that of 0, of 1, and so on
unfoldable pub each : (ℕ → List Work) → ℕ → List Work
each f zero = []
each f (suc n) = each f n ++ f n

-- ---- days and months

-- December 2023, in which all loans are taken on
abbrev pub december : ℕ
december = 12 * 2023 + 11

-- the months of the year go from February 2024, which has the index 0, to January 2025, which has the index 11: the
-- month before month j, and month j
abbrev pub month_before : ℕ → ℕ
month_before j = december + 1 + j

abbrev pub month_at : ℕ → ℕ
month_at j = month_before j + 1

-- ---- commands

-- loans go by turns: 1 is AA, 2 is SA, 3 is SS, and so on
abbrev pub type_of : ℕ → RemitType
type_of n = if n % 3 == 1 then AA else if n % 3 == 2 then SA else SS

-- 200,000.00 at 6 percent of which 0.25 is the fee, in 360 installments of 1,199.10 from February 2024 on
unfoldable pub terms_of : ℕ → Terms
terms_of n = record {
  boarded = first_day december + 14;
  principal = pos 20_000_000;
  rate = 6_000;
  fee = 250;
  pi = pos 119_910;
  term = 360;
  first = december + 2;
  grace = 15;
  late = 500;
  cushion = 2;
  escrow = pos 0;
  kind = type_of n;
}

-- one installment, paid on a day
abbrev pub payment : ℕ → ℕ → Command
payment loan day = command.Pay loan day (pos 119_910) Regular

-- ---- what the draws ask for

-- a draw of 7 or 8 asks for nothing in its month; any other for a payment on the month's first day
unfoldable pub work_of : ℕ → ℕ → ℕ → List Work
work_of month loan r = if (r == 7) || (r == 8) then [] else Do (payment loan (first_day month)) ∷ []

-- a month later a draw of 8 asks for a payment on the 10th of the draw's month, and a draw of 9 takes the payment of
-- that month back
unfoldable pub late_work_of : ℕ → ℕ → ℕ → List Work
late_work_of month loan r =
    if r == 8 then Do (payment loan (first_day month + 9)) ∷ []
    else if r == 9 then TakeBack loan ∷ []
    else []

-- what draws ask for: the loan with an index, from 0, has the draw in that place of those that begin in a state
abbrev pub asked_at : (ℕ → ℕ → ℕ → List Work) → ℕ → ℕ → ℕ → List Work
asked_at asks month x i = asks month (i + 1) (draw x i)

-- what the draws of all loans ask for, of a month, one draw for each in order
unfoldable pub works : (ℕ → ℕ → ℕ → List Work) → ℕ → ℕ → ℕ → List Work
works asks month x loans = each (asked_at asks month x) loans

-- ---- the year

-- the state in which the draws of month j begin: those of the months before it are over
abbrev pub state_at : ℕ → ℕ → ℕ → ℕ
state_at loans number j = state_after number (j * loans)

-- what is late from the month before month j, whose draws begin in a state; before the first month there was none
unfoldable pub late_before : ℕ → ℕ → ℕ → List Work
late_before zero x loans = []
late_before (suc j) x loans = works late_work_of (month_at j) x loans

-- the first day of the month after a month, which is then closed and remitted
unfoldable pub turn : ℕ → List Work
turn month =
    Do (command.Day (first_day (month + 1))) ∷ Do (command.Close month) ∷ Do (command.Remit month) ∷ []

-- month j, where the draws of the month before and those of this month begin in two states: the month begins, and the
-- one before is closed and remitted; then late work, then the work of this month's draws
unfoldable pub month_from : ℕ → ℕ → ℕ → ℕ → List Work
month_from j earlier now loans =
    turn (month_before j) ++ (late_before j earlier loans ++ works work_of (month_at j) now loans)

abbrev pub month_works : ℕ → ℕ → ℕ → List Work
month_works loans number j = month_from j (state_at loans number (j - 1)) (state_at loans number j) loans

abbrev pub all_months : ℕ → ℕ → List Work
all_months loans number = each (month_works loans number) 12

-- the loans are taken on, from 1
abbrev pub boarding_at : ℕ → List Work
boarding_at i = Do (command.Board (i + 1) (terms_of (i + 1))) ∷ []

unfoldable pub boardings : ℕ → List Work
boardings loans = each boarding_at loans

-- all of them on 15 December, which is closed and remitted in January
unfoldable pub first_works : ℕ → List Work
first_works loans =
    Do (command.Day (first_day december + 14)) ∷ (boardings loans ++ turn december)

-- the year: that, and twelve months
unfoldable pub year_works : ℕ → ℕ → List Work
year_works loans number = first_works loans ++ all_months loans number
