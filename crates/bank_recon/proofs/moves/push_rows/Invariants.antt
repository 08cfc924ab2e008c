use Rattle.std.proofs.Common.{◌≡◌, ◌++◌, take}
use Rattle.std.specs.List.{flat_map}
use Rattle.bank_recon.specs.Items.{items_of}
use Rattle.bank_recon.proofs.moves.push_rows.Given as goal

abbrev pub invariant-loop-row : goal.invariant-loop-row
invariant-loop-row l = l.items.items ≡ l.initial.items.items ++ flat_map items_of (take l.row-index l.rows)
