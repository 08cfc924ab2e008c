use Rattle.reach_tests.proofs.insurance.outcome_of.Given as goal

abbrev pub ghosts-outcome_over : goal.ghosts-outcome_over
ghosts-outcome_over a = record { name = a.blank.name; parts = a.blank.parts }
