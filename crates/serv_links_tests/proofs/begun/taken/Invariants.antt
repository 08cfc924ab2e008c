use Rattle.serv_links_tests.proofs.begun.taken.Given as goal

abbrev pub ghosts-taken_counted : goal.ghosts-taken_counted
ghosts-taken_counted a = record { name = a.blank.name; parts = a.blank.parts }
