use Rattle.std.proofs.Common.{◌≡◌, ◌++◌, take}
use Rattle.std.specs.List.{flat_map}
use Rattle.serv_report.specs.DeskTexts.{text_of_reversed}
use Rattle.serv_report.proofs.history.push_reversals.Given as goal

abbrev pub invariant-loop-reversal : goal.invariant-loop-reversal
invariant-loop-reversal l = l.out.items ≡ l.initial.out.items ++ flat_map text_of_reversed (take l.reversal-index l.reversed)
