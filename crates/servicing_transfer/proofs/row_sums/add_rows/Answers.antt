use Rattle.std.proofs.Common.{sym, ap, ◌∙◌, get_or}
use Rattle.std.specs.Prelude.{nat_eq}
use Rattle.std.specs.HashMap.{get}
use Rattle.servicing_transfer.specs.RowSums.{with_own, or_none}
use Rattle.servicing_transfer.proofs.StatementLemmas.{row_more, no_row}
use Rattle.servicing_transfer.proofs.row_sums.add_rows.Goals as goal

pub loop-row-preserved : goal.loop-row-preserved
loop-row-preserved c =
    record { sums = λ id. c.in_ok-add_row.ensures id ∙ ap (with_own id (get_or c.args.rows.now c.loop-row.row-index no_row)) (c.loop-row.invariant.sums id) ∙ sym (row_more id c.args.rows.now c.loop-row.row-index (or_none (get nat_eq c.args.sums.now id)) no_row c.loop-row-test.true) }
