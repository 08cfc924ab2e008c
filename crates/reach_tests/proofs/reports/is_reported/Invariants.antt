use Rattle.reach_tests.proofs.reports.is_reported.Given as goal

abbrev pub ghosts-is_reported_over : goal.ghosts-is_reported_over
ghosts-is_reported_over a = record { name = a.blank.name; parts = a.blank.parts }
