use Rattle.svc_base.proofs.TextLemmas.{on_none, no_point, no_units, large_units}
use Rattle.std.proofs.Common.{arith}
use Rattle.svc_base.proofs.reading.read_cents.Goals as goal

pub returns-in_err-whole-clause-none : goal.returns-in_err-whole-clause-none
returns-in_err-whole-clause-none c = on_none _ (no_point c.args.text.now c.args.limit c.in_err-whole.ensures.none)

pub returns-in_err-units-clause-none : goal.returns-in_err-units-clause-none
returns-in_err-units-clause-none c =
    let split = c.in_ok-whole.ensures.read in
    on_none _ (no_units c.args.text.now c.in_ok-whole.whole.now c.in_ok-whole.cents c.args.limit split.0 split.1 (omega arith) c.in_err-units.ensures.none)

pub returns-then-units-limit-clause-none : goal.returns-then-units-limit-clause-none
returns-then-units-limit-clause-none c =
    let split = c.in_ok-whole.ensures.read in
    large_units c.args.text.now c.in_ok-whole.whole.now c.in_ok-whole.cents c.in_ok-units.units c.args.limit split.0 split.1 c.in_ok-units.ensures.read (omega arith) (omega arith)
