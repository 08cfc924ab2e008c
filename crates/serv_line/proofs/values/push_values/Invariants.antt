use Rattle.std.proofs.Common.{◌≡◌, ◌++◌, take}
use Rattle.serv_line.specs.Lines.{text_of_values}
use Rattle.serv_line.proofs.values.push_values.Given as goal

abbrev pub invariant-loop-value : goal.invariant-loop-value
invariant-loop-value l = l.out.items ≡ l.initial.out.items ++ text_of_values (take l.value-index l.values)
