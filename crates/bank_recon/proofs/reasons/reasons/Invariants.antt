use Rattle.std.proofs.Common.{◌≡◌, take, map}
use Rattle.bank_recon.specs.Matching.{with_reason}
use Rattle.bank_recon.proofs.reasons.reasons.Given as goal

abbrev pub invariant-loop-line : goal.invariant-loop-line
invariant-loop-line l = l.reasons.items ≡ map (with_reason l.items l.open_items) (take l.line-index l.lines)
