use Rattle.svc_replay_tests.proofs.steps.books_after.Given as goal

abbrev pub ghosts-folded : goal.ghosts-folded
ghosts-folded a = record { name = a.blank.name; parts = a.blank.parts }
