use Rattle.std.proofs.Common.{List, subst}
use Rattle.period_adjust.specs.declared.loan_sums.LoanSums.{LoanSums}
use Rattle.period_adjust.specs.Places.{IsPlaceOf}
use Rattle.period_adjust.proofs.RunningLemmas.{zero_sums, kept-there}
use Rattle.period_adjust.proofs.loan_sums.place_of.Goals as goal

pub returns-in-Ok-clause-there : goal.returns-in-Ok-clause-there
returns-in-Ok-clause-there c other =
    let at = subst (λ (ss : List LoanSums). IsPlaceOf ss c.args.loan c.in-Ok.place) c.deref.ensures.value c.in-Ok.ensures in
    kept-there c.args.sums.now.items c.args.loan c.in-Ok.place (zero_sums c.args.loan) other at.bound (at.own (zero_sums c.args.loan))
