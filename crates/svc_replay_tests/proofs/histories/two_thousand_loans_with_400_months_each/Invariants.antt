use Rattle.svc_replay_tests.proofs.histories.two_thousand_loans_with_400_months_each.Given as goal

abbrev pub ghosts-deposits : goal.ghosts-deposits
ghosts-deposits g a = record { name = a.blank.name; parts = a.blank.parts }
