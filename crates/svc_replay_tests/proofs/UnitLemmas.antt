-- What one event more can do to the sums of the books.
use Rattle.std.proofs.Common.{ℕ, ◌+◌, ◌≤◌, arith}
use Rattle.std.proofs.lemmas.Int.{ints}
use Rattle.svc_types.specs.declared.terms.Terms.{Terms}
use Rattle.svc_types.specs.declared.books.Books.{Books}
use Rattle.svc_types.specs.declared.account.Event.{Event}
use Rattle.svc_types.specs.declared.account.What.{What}
use Rattle.svc_types.specs.declared.account.What.TheVariants as what
use Rattle.svc_types.specs.Terms.{IsSound}
use Rattle.svc_spec.specs.Books.{HaveSigns, AreWithin, IsWhat}
use Rattle.svc_spec.specs.Step.{step}
use Rattle.svc_spec.proofs.LimitLemmas.{AreBounded, weight, step_signs, step_bounded, bounded_within}

weight_most : (w : What) → weight w ≤ 1
weight_most what.MonthMark = omega arith
weight_most (what.LateMark k) = omega arith
weight_most (what.Act a) = omega arith

-- one event lifts the sums by a unit at most
pub step_one_more : (t : Terms) (e : Event) (n : ℕ) (b : Books) → IsSound t → IsWhat e.what → HaveSigns t b → AreBounded n b → AreBounded (n + 1) (step t e b)
step_one_more t e n b s a signs h =
    let all = step_bounded t e n b s a signs h in
    let most = weight_most e.what in
    let escrow = all.backed.escrow in
    let owed = all.backed.late_owed in
    let total = all.total in
    record {
      backed = record { escrow = omega (arith, ints); fee = all.backed.fee; curtailed = all.backed.curtailed; late_owed = omega (arith, ints) };
      total = omega (arith, ints);
    }

-- and books of few events stay within the limits
pub step_within : (t : Terms) (e : Event) (n : ℕ) (b : Books) → IsSound t → IsWhat e.what → HaveSigns t b → AreBounded n b → n + 1 ≤ 4_600 → AreWithin (step t e b)
step_within t e n b s a signs h few = bounded_within t (n + 1) (step t e b) few (step_signs t e b s a signs) (step_one_more t e n b s a signs h)
