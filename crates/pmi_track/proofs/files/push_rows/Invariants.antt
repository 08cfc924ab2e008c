use Rattle.std.proofs.Common.{◌≡◌, ◌+◌, ◌≤◌, ◌++◌, take}
use Rattle.std.specs.List.{flat_map, sum_by}
use Rattle.svc_world.specs.World.{world}
use Rattle.pmi_track.specs.Texts.{row_text, row_cost}
use Rattle.pmi_track.proofs.files.push_rows.Given as goal

abbrev pub invariant-loop-row : goal.invariant-loop-row
invariant-loop-row g l = record {
  text : l.out.items ≡ l.fn.out.items ++ flat_map (row_text l.output (world l.core.history)) (take l.row-index l.rows);
  steps : l.steps ≤ l.fn.steps + sum_by (row_cost g.B.LoanBooks.cost (world l.core.history)) (take l.row-index l.rows);
}
