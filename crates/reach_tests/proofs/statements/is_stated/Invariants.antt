use Rattle.reach_tests.proofs.statements.is_stated.Given as goal

abbrev pub ghosts-is_stated_over : goal.ghosts-is_stated_over
ghosts-is_stated_over a = record { name = a.blank.name; parts = a.blank.parts }
