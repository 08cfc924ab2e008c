use Rattle.svc_replay_tests.proofs.histories.an_account_is_full_at_4096_entries.Given as goal

abbrev pub ghosts-overfull : goal.ghosts-overfull
ghosts-overfull g a = record { name = a.blank.name; parts = a.blank.parts }
