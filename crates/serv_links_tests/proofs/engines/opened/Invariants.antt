use Rattle.serv_links_tests.proofs.engines.opened.Given as goal

abbrev pub ghosts-opened_counted : goal.ghosts-opened_counted
ghosts-opened_counted a = record { name = a.blank.name; parts = a.blank.parts }
