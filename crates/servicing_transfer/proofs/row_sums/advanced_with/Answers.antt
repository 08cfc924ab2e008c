use Rattle.std.proofs.Common.{◌∙◌, ap, sym}
use Rattle.std.specs.Prelude.{◌+ℤ◌}
use Rattle.servicing_transfer.specs.RowSums.{kept, advanced_by}
use Rattle.servicing_transfer.proofs.SumLemmas.{added, left_as, no_advance}
use Rattle.servicing_transfer.proofs.row_sums.advanced_with.Goals as goal

pub returns-in-PiAdvance : goal.returns-in-PiAdvance
returns-in-PiAdvance c = added c.args.sum c.args.cents c.ranges.sum c.ranges.cents ∙ ap (λ p. kept (c.args.sum +ℤ advanced_by p c.args.cents)) (sym c.in-PiAdvance.is)

pub returns-in_default : goal.returns-in_default
returns-in_default c = left_as c.args.sum (advanced_by c.args.part c.args.cents) c.ranges.sum (no_advance c.args.part c.args.cents c.in_default.not-PiAdvance)
