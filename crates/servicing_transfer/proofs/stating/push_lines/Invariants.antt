use Rattle.std.proofs.Common.{◌≡◌, ◌++◌, take}
use Rattle.std.specs.Prelude.{map}
use Rattle.std.specs.List.{flat_map}
use Rattle.serv_line.specs.Replies.{ended}
use Rattle.servicing_transfer.specs.StatementTexts.{loan_line}
use Rattle.servicing_transfer.proofs.stating.push_lines.Given as goal

abbrev pub invariant-loop-line : goal.invariant-loop-line
invariant-loop-line l = record {
  lines : l.out.items ≡ l.fn.out.items ++ flat_map ended (map loan_line (take l.line-index l.lines));
}
