use Rattle.serv_links_tests.proofs.counted.synced.Given as goal

abbrev pub ghosts-synced_by : goal.ghosts-synced_by
ghosts-synced_by a = record { name = a.blank.name; parts = a.blank.parts }
