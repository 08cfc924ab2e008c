use Rattle.std.proofs.Common.{◌≡◌, ◌<◌, ◌++◌, ◌∷◌, [], List, length, take, get_or, arith, sym, ap, subst, ◌∙◌}
use Rattle.std.proofs.lemmas.List.{length-map}
use Rattle.std.proofs.lemmas.List.Sums.{sum_by_more, sum_by_more_le}
use Rattle.std.proofs.Math.ListN.{get_or-map as get_mapped}
use Rattle.svc_loan.specs.Kept.{KeptLoan}
use Rattle.svc_loan.specs.Loans.{held_in}
use Rattle.svc_world.specs.Held.{Held}
use Rattle.svc_world.specs.Desk.{counts_of, late_loans}
use Rattle.svc_world.specs.declared.desk.AgingCounts.{AgingCounts}
use Rattle.svc_world.specs.declared.desk.LateLoan.{LateLoan}
use Rattle.svc_desk.specs.Counts.{and, AreUpTo}
use Rattle.svc_desk.specs.Costs.{arrears_cost}
use Rattle.svc_desk.proofs.AgingLemmas.{counts_few, counts_more, late_more}
use Rattle.svc_desk.proofs.aging.aging_answer.Goals as goal

pub loop-place-init : goal.loop-place-init
unfolding late_loans
loop-place-init g c = record { late = c.new-late.ensures.items; counts = c.no_loans-counts.ensures c.args.today; steps = omega arith; end = c.len-place-end.ensures }

pub add_loan-requires-clause-few : goal.add_loan-requires-clause-few
add_loan-requires-clause-few g c =
    let i = c.loop-place.place in
    let lt : i < c.len-place-end.result = omega arith in
    let end = c.len-place-end.ensures in
    let few = c.requires.few in
    subst (AreUpTo 11_999) (sym c.loop-place.invariant.counts) (counts_few c.args.today (held_in c.args.loans.now.loans) i (omega (arith, lt, end, few)))

pub returns-in_err-add_loan-clause-steps : goal.returns-in_err-add_loan-clause-steps
returns-in_err-add_loan-clause-steps g c =
    let ks = c.args.loans.now.loans in
    let i = c.loop-place.place in
    let k = c.at.result.now in
    let lt : i < c.len-place-end.result = omega arith in
    let end = c.len-place-end.ensures in
    let count = length-map ks (λ (x : KeptLoan). x.held) in
    let here : get_or (held_in ks) i k.held ≡ k.held = get_mapped (λ (x : KeptLoan). x.held) ks i k ∙ ap (λ (x : KeptLoan). x.held) (sym c.at.ensures) in
    let le = sum_by_more_le (arrears_cost c.args.today) (held_in ks) i k.held (omega (arith, lt, end, count)) in
    let same = ap (arrears_cost c.args.today) here in
    let before = c.loop-place.invariant.steps in
    let now = c.add_loan.ensures.steps in
    omega (arith, le, same, before, now)

pub loop-place-preserved : goal.loop-place-preserved
loop-place-preserved g c =
    let day = c.args.today in
    let ks = c.args.loans.now.loans in
    let i = c.loop-place.place in
    let k = c.at.result.now in
    let lt : i < c.len-place-end.result = omega arith in
    let end = c.len-place-end.ensures in
    let count = length-map ks (λ (x : KeptLoan). x.held) in
    let few : i < length (held_in ks) = omega (arith, lt, end, count) in
    let here : get_or (held_in ks) i k.held ≡ k.held = get_mapped (λ (x : KeptLoan). x.held) ks i k ∙ ap (λ (x : KeptLoan). x.held) (sym c.at.ensures) in
    let more = sum_by_more (arrears_cost day) (held_in ks) i k.held few in
    let same = ap (arrears_cost day) here in
    let before = c.loop-place.invariant.steps in
    let now = c.add_loan.ensures.steps in
    record {
      late = c.in_ok-add_loan.ensures.late ∙ ap (λ (xs : List LateLoan). xs ++ late_loans day (k.held ∷ [])) c.loop-place.invariant.late
          ∙ ap (λ (l : Held). late_loans day (take i (held_in ks)) ++ late_loans day (l ∷ [])) (sym here) ∙ late_more day (held_in ks) i k.held few;
      counts = c.in_ok-add_loan.ensures.counts ∙ ap (λ (x : AgingCounts). and x (counts_of day (k.held ∷ []))) c.loop-place.invariant.counts
          ∙ ap (λ (l : Held). and (counts_of day (take i (held_in ks))) (counts_of day (l ∷ []))) (sym here) ∙ counts_more day (held_in ks) i k.held few;
      steps = omega (arith, more, same, before, now);
      end = end;
    }
