use Rattle.std.proofs.Common.{◌≡◌, ◌*◌, ◌^◌, take}
use Rattle.std.specs.Prelude.{pos, neg_ℤ, ◌≤ℤ◌}
use Rattle.bank_recon.specs.Reconciling.{sum_in, lines_of}
use Rattle.bank_recon.proofs.sums.sum_of_lines.Given as goal

abbrev pub invariant-loop-line : goal.invariant-loop-line
invariant-loop-line l = record {
  value : l.sum ≡ sum_in l.account (lines_of (take l.line-index l.lines));
  low : neg_ℤ (pos (2 ^ 63 * l.line-index)) ≤ℤ l.sum;
  high : l.sum ≤ℤ pos (2 ^ 63 * l.line-index);
}
