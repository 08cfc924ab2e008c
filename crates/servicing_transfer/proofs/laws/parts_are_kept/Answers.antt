use Rattle.servicing_transfer.proofs.PartTheorem.{part_kept}
use Rattle.servicing_transfer.proofs.laws.parts_are_kept.Goals as goal

pub returns : goal.returns
returns c = record { kept = part_kept }
