use Rattle.serv_links_tests.proofs.engines.acted.Given as goal

abbrev pub ghosts-acted_counted : goal.ghosts-acted_counted
ghosts-acted_counted a = record { name = a.blank.name; parts = a.blank.parts }
