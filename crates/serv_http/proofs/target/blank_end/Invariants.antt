use Rattle.std.proofs.Common.{◌≡◌, ◌≤◌, ◌-◌, ◌++◌, List, length, drop}
use Rattle.httparse.specs.Grammar.{LineEnd, print_blank}
use Rattle.serv_http.proofs.target.blank_end.Given as goal

abbrev pub invariant-loop-at : goal.invariant-loop-at
invariant-loop-at l = record {
  within : l.at ≤ length l.buf;
  blank : (ends : List LineEnd) × (l.buf ≡ print_blank ends ++ drop l.at l.buf);
}

abbrev pub decreases-loop-at : goal.decreases-loop-at
decreases-loop-at l = length l.buf - l.at
