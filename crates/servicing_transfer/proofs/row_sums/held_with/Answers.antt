use Rattle.std.proofs.Common.{◌∙◌, ap}
use Rattle.std.specs.Prelude.{◌+ℤ◌}
use Rattle.servicing_transfer.specs.RowSums.{kept, held_by}
use Rattle.servicing_transfer.proofs.SumLemmas.{added, taken, left_as, held_in, held_out, no_held}
use Rattle.servicing_transfer.proofs.row_sums.held_with.Goals as goal

pub returns-in-Collected : goal.returns-in-Collected
returns-in-Collected c = added c.args.sum c.args.cents c.ranges.sum c.ranges.cents ∙ ap (λ z. kept (c.args.sum +ℤ z)) (held_in c.args.part c.args.cents c.in-Collected.is)

pub returns-in-Fee : goal.returns-in-Fee
returns-in-Fee c = taken c.args.sum c.args.cents c.ranges.sum c.ranges.cents ∙ ap (λ z. kept (c.args.sum +ℤ z)) (held_out c.args.part c.args.cents c.in-Fee.is)

pub returns-in_default : goal.returns-in_default
returns-in_default c = left_as c.args.sum (held_by c.args.part c.args.cents) c.ranges.sum (no_held c.args.part c.args.cents c.in_default.not-Collected c.in_default.not-PiAdvance c.in_default.not-Fee c.in_default.not-Remitted c.in_default.not-Residual)
