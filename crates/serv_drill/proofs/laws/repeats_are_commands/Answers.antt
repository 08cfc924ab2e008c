use Rattle.serv_drill.specs.Works.{year_works}
use Rattle.serv_drill.proofs.LengthLemmas.{length_year}
use Rattle.serv_drill.proofs.RepeatLemmas.{repeats_of}
use Rattle.serv_drill.proofs.laws.repeats_are_commands.Goals as goal

pub returns-clause-works : goal.returns-clause-works
returns-clause-works c = λ ws fits. repeats_of ws fits

pub returns-clause-year : goal.returns-clause-year
returns-clause-year c = λ loans number few. repeats_of (year_works loans number) (length_year loans number few)
