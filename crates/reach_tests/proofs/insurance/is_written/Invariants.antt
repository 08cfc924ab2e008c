use Rattle.reach_tests.proofs.insurance.is_written.Given as goal

abbrev pub ghosts-is_written_over : goal.ghosts-is_written_over
ghosts-is_written_over a = record { name = a.blank.name; parts = a.blank.parts }
