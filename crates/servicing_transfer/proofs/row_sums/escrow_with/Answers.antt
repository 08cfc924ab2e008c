use Rattle.std.proofs.Common.{◌∙◌, ap, sym}
use Rattle.std.specs.Prelude.{◌+ℤ◌}
use Rattle.servicing_transfer.specs.RowSums.{kept, escrow_by}
use Rattle.servicing_transfer.proofs.SumLemmas.{added, left_as, no_escrow}
use Rattle.servicing_transfer.proofs.row_sums.escrow_with.Goals as goal

pub returns-in-EscrowAdvance : goal.returns-in-EscrowAdvance
returns-in-EscrowAdvance c = added c.args.sum c.args.cents c.ranges.sum c.ranges.cents ∙ ap (λ p. kept (c.args.sum +ℤ escrow_by p c.args.cents)) (sym c.in-EscrowAdvance.is)

pub returns-in_default : goal.returns-in_default
returns-in_default c = left_as c.args.sum (escrow_by c.args.part c.args.cents) c.ranges.sum (no_escrow c.args.part c.args.cents c.in_default.not-EscrowAdvance)
