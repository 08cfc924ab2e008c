use Rattle.svc_core_tests.proofs.judging.judging_alone_changes_nothing.Given as goal

abbrev pub ghosts-play_over : goal.ghosts-play_over
ghosts-play_over g a = record { name = a.blank.name; parts = a.blank.parts }

abbrev pub ghosts-play_over-2 : goal.ghosts-play_over-2
ghosts-play_over-2 g a = record { name = a.blank.name; parts = a.blank.parts }
