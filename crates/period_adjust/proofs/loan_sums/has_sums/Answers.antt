use Rattle.std.proofs.Common.{◌∙◌}
use Rattle.period_adjust.proofs.RunningLemmas.{kept-looked-up}
use Rattle.period_adjust.proofs.loan_sums.has_sums.Goals as goal

pub returns : goal.returns
returns c = c.is_ok.ensures.value ∙ kept-looked-up c.args.sums.now c.args.loan c.find.result c.find.ensures
