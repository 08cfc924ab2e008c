use Rattle.std.proofs.Common.{ap, sym, ◌∙◌}
use Rattle.period_adjust.specs.declared.loan_sums.LoanSums.{LoanSums}
use Rattle.period_adjust.specs.Sums.{Interest, Principal}
use Rattle.period_adjust.proofs.RunningLemmas.{running-found, running-absent}
use Rattle.period_adjust.proofs.loan_sums.sums_of.Goals as goal

pub returns-in-Ok-clause-interest : goal.returns-in-Ok-clause-interest
returns-in-Ok-clause-interest c = sym (running-found Interest c.args.sums.now c.args.loan c.in-Ok.place _ c.requires c.in-Ok.ensures.bound (c.in-Ok.ensures.own _))

pub returns-in-Ok-clause-principal : goal.returns-in-Ok-clause-principal
returns-in-Ok-clause-principal c = sym (running-found Principal c.args.sums.now c.args.loan c.in-Ok.place _ c.requires c.in-Ok.ensures.bound (c.in-Ok.ensures.own _))

pub returns-in-Err-clause-interest : goal.returns-in-Err-clause-interest
returns-in-Err-clause-interest c = ap (λ (s : LoanSums). s.interest) c.nothing.ensures ∙ sym (running-absent Interest c.args.sums.now c.args.loan c.in-Err.field-0 c.in-Err.ensures)

pub returns-in-Err-clause-principal : goal.returns-in-Err-clause-principal
returns-in-Err-clause-principal c = ap (λ (s : LoanSums). s.principal) c.nothing.ensures ∙ sym (running-absent Principal c.args.sums.now c.args.loan c.in-Err.field-0 c.in-Err.ensures)
