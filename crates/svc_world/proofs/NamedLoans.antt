-- The loan that an accepted command names, and the room for its adjustments.
use Rattle.std.proofs.Common.{◌≡◌, ℕ, ◌+◌, ◌≤◌, ◌<◌, false, List, arith, sym, ap, ◌∙◌}
use Rattle.std.specs.Prelude.{Some, None}
use Rattle.std.proofs.lemmas.Bool.Decides.{nat_tests}
use Rattle.svc_types.specs.declared.requests.Command.{Command}
use Rattle.period_adjust.specs.Conditions.{count_held, first_month}
use Rattle.svc_world.specs.Held.{Held, find_loan, boarded_month}
use Rattle.svc_world.specs.World.{World}
use Rattle.svc_world.specs.Refusals.{Case, first_of, on_loan, full_of_commands, cases_by_command, refusal_of}
use Rattle.svc_world.specs.Worlds.{IsHeld, IsWorld}
use Rattle.svc_world.proofs.LoanListLemmas.{found_id, found_all}
use Rattle.svc_world.proofs.CaseLemmas.{past, IsOnLoan, past_loan, HasRoom, closed_enough}
use Rattle.svc_world.proofs.ChangedWorlds.{closed_months, first_by}

-- ---- a loan that is there

-- a loan that a command names, with what holds of it
pub record IsNamed (n : ℕ) (w : World) (id : ℕ) (l : Held) : Type 0 where
  pub found : find_loan l.id w.loans ≡ Some l
  pub number : l.id ≡ id
  pub held : IsHeld n w.today l

pub named_loan : (n : ℕ) (w : World) (id : ℕ) (l : Held) → IsWorld n w → find_loan id w.loans ≡ Some l → IsNamed n w id l
named_loan n w id l h e =
    let number = found_id id w.loans l e in
    record { found = ap (λ i. find_loan i w.loans) number ∙ e; number = number; held = found_all (IsHeld n w.today) id w.loans l e h.held }

-- fewer commands were accepted than there may be
pub not_full : (n : ℕ) → (full_of_commands n).holds ≡ false → n < 1_000_000
not_full n e = grind (arith, nat_tests)

-- there is room for the adjustments of all closed months from one on
pub room_enough : (n m : ℕ) (w : World) (l : Held) → IsWorld n w → find_loan l.id w.loans ≡ Some l → boarded_month l ≤ m → HasRoom w m → count_held w.seals + closed_months w.seals.reports m ≤ 4_000_000
room_enough n m w l h e since room =
    let first = first_by (first_month w.seals.reports) m 0 w.loans l h.reports.from_first e since in
    let enough = closed_enough w.seals.reports m h.reports.sealed.consecutive first in
    omega (arith, room, enough)

-- what an accepted command on a loan leaves: there may be one more, and the loan is there
pub record IsAsked (n : ℕ) (w : World) (id : ℕ) (rules : Held → List Case) : Type 0 where
  pub few : n < 1_000_000
  pub loan : IsOnLoan w id rules

pub asked : (n : ℕ) (w : World) (id : ℕ) (rules : Held → List Case) (c : Command) → cases_by_command w c ≡ on_loan w id rules → refusal_of n w c ≡ None → IsAsked n w id rules
unfolding refusal_of
asked n w id rules c is e =
    let p = past (full_of_commands n) (cases_by_command w c) e in
    record { few = not_full n p.no; loan = past_loan w id rules (ap first_of (sym is) ∙ p.rest) }
