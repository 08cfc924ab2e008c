-- A query on a loan that has an answer: the loan is there.
use Rattle.std.proofs.Common.{◌≡◌, ℕ, refl, ap}
use Rattle.std.specs.Prelude.{List, Some, None}
use Rattle.std.specs.Option.{option_map}
use Rattle.svc_world.specs.declared.answer.Answer.{Answer}
use Rattle.svc_world.specs.Held.{Held, find_loan}
use Rattle.svc_world.specs.World.{World}
use Rattle.svc_world.specs.Refusals.{Case, first_of, on_loan}
use Rattle.svc_world.specs.Answers.{of_loan}

-- the loan that is answered of
pub record IsOfLoan (w : World) (id : ℕ) (answered : Held → Answer) (a : Answer) : Type 0 where
  pub loan : Held
  pub found : find_loan id w.loans ≡ Some loan
  pub same : answered loan ≡ a

pub is_of_loan : (w : World) (id : ℕ) (answered : Held → Answer) (a : Answer) → of_loan w id answered ≡ Some a → IsOfLoan w id answered a
is_of_loan w id answered a e =
    elim (find_loan id w.loans) as (λ o. find_loan id w.loans ≡ o → option_map answered o ≡ Some a → IsOfLoan w id answered a) [
      | None ↦ λ is told. absurd (cc)
      | Some l ↦ λ is told. record { loan = l; found = is; same = cc }
    ] refl e

-- the rules on a loan that is there are its rules
pub rules_found : (w : World) (id : ℕ) (rules : Held → List Case) (l : Held) → find_loan id w.loans ≡ Some l → first_of (on_loan w id rules) ≡ first_of (rules l)
rules_found w id rules l found = rw found refl

-- and so is the answer
pub answer_found : (w : World) (id : ℕ) (answered : Held → Answer) (l : Held) → find_loan id w.loans ≡ Some l → of_loan w id answered ≡ Some (answered l)
answer_found w id answered l found = ap (option_map answered) found
