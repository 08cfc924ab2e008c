use Rattle.reach_tests.proofs.statements.is_confirmed.Given as goal

abbrev pub ghosts-is_confirmed_over : goal.ghosts-is_confirmed_over
ghosts-is_confirmed_over a = record { name = a.blank.name; parts = a.blank.parts }
