use Rattle.std.proofs.Common.{◌≡◌, ◌+◌, map, take, vec_len, vec_capacity}
use Rattle.period_adjust.specs.Sums.{line_with}
use Rattle.period_adjust.proofs.report_lines.report_lines.Given as goal

abbrev pub invariant-loop-due : goal.invariant-loop-due
invariant-loop-due l = record {
  items : l.lines.items ≡ map (line_with l.pending.adjustments) (take l.due-index l.dues);
  room : vec_len l.lines ≡ vec_len l.fn.lines + l.due-index;
  capacity : vec_capacity l.lines ≡ vec_capacity l.fn.lines;
}
