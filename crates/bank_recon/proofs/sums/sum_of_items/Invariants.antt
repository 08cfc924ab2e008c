use Rattle.std.proofs.Common.{◌≡◌, ◌*◌, ◌^◌, take}
use Rattle.std.specs.Prelude.{pos, neg_ℤ, ◌≤ℤ◌}
use Rattle.bank_recon.specs.Reconciling.{sum_in}
use Rattle.bank_recon.proofs.sums.sum_of_items.Given as goal

abbrev pub invariant-loop-item : goal.invariant-loop-item
invariant-loop-item l = record {
  value : l.sum ≡ sum_in l.account (take l.item-index l.items);
  low : neg_ℤ (pos (2 ^ 63 * l.item-index)) ≤ℤ l.sum;
  high : l.sum ≤ℤ pos (2 ^ 63 * l.item-index);
}
