use Rattle.std.proofs.Common.{refl}
use Rattle.servicing_transfer.specs.Parts.{in_range, out_of_range, part_of}
use Rattle.servicing_transfer.proofs.ShownCash.{split_holds}
use Rattle.servicing_transfer.proofs.laws.histories_split.Goals as goal

pub returns : goal.returns
returns c = record { split = λ low high h is. split_holds low high h (part_of (in_range low high) h) (part_of (out_of_range low high) h) refl refl is }
