use Rattle.std.proofs.Common.{◌≡◌, ◌*◌, take}
use Rattle.std.specs.Prelude.{pos, neg_ℤ, ◌≤ℤ◌}
use Rattle.servicing_transfer.specs.StatementTexts.{t_of, p_of}
use Rattle.servicing_transfer.proofs.reading.totals.Given as goal

abbrev pub invariant-loop-line : goal.invariant-loop-line
invariant-loop-line l = record {
  t : l.t ≡ t_of (take l.line-index l.lines);
  p : l.p ≡ p_of (take l.line-index l.lines);
  t_low : neg_ℤ (pos (300_000_000_000_000_000_000 * l.line-index)) ≤ℤ l.t;
  t_high : l.t ≤ℤ pos (300_000_000_000_000_000_000 * l.line-index);
  p_low : pos 0 ≤ℤ l.p;
  p_high : l.p ≤ℤ pos (100_000_000_000_000_000_000 * l.line-index);
}
