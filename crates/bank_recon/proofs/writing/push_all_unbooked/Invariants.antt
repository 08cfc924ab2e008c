use Rattle.std.proofs.Common.{◌≡◌, ◌++◌, take}
use Rattle.std.specs.List.{flat_map}
use Rattle.bank_recon.specs.Texts.{unbooked_line}
use Rattle.bank_recon.proofs.writing.push_all_unbooked.Given as goal

abbrev pub invariant-loop-line : goal.invariant-loop-line
invariant-loop-line l = l.out.items ≡ l.initial.out.items ++ flat_map unbooked_line (take l.line-index l.lines)
