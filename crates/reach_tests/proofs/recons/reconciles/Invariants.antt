use Rattle.reach_tests.proofs.recons.reconciles.Given as goal

abbrev pub ghosts-reconciles_over : goal.ghosts-reconciles_over
ghosts-reconciles_over a = record { name = a.blank.name; parts = a.blank.parts }
