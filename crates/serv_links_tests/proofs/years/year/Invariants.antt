use Rattle.serv_links_tests.proofs.years.year.Given as goal

abbrev pub ghosts-year_counted : goal.ghosts-year_counted
ghosts-year_counted a = record { name = a.blank.name; parts = a.blank.parts }
