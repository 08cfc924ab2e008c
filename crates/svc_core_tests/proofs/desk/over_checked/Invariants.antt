use Rattle.svc_core_tests.proofs.desk.over_checked.Given as goal

abbrev pub ghosts-differing : goal.ghosts-differing
ghosts-differing g a = record { name = a.blank.name; parts = a.blank.parts }
