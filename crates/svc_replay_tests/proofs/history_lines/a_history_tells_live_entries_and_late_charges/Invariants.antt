use Rattle.svc_replay_tests.proofs.history_lines.a_history_tells_live_entries_and_late_charges.Given as goal

abbrev pub ghosts-histories : goal.ghosts-histories
ghosts-histories g a = record { name = a.blank.name; parts = a.blank.parts }

abbrev pub ghosts-histories-2 : goal.ghosts-histories-2
ghosts-histories-2 g a = record { name = a.blank.name; parts = a.blank.parts }
