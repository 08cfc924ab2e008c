use Rattle.reach_tests.proofs.transfers.is_split.Given as goal

abbrev pub ghosts-is_split_over : goal.ghosts-is_split_over
ghosts-is_split_over a = record { name = a.blank.name; parts = a.blank.parts }
