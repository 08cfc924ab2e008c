use Rattle.std.proofs.Common.{FitsSigned, w64, arith}
use Rattle.std.proofs.lemmas.Int.{ints, to_z-of_z}
use Rattle.pmi_track.proofs.ScheduleLemmas.{progress_start}
use Rattle.pmi_track.proofs.ending.begun.Goals as goal

pub returns : goal.returns
returns c =
    let fits : FitsSigned w64 c.args.terms.now.principal = omega (arith, ints) in
    simp to_z-of_z (progress_start c.args.terms.now c.requires)
