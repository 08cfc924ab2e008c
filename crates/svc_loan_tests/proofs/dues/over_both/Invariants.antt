use Rattle.svc_loan_tests.proofs.dues.over_both.Given as goal

abbrev pub ghosts-differing : goal.ghosts-differing
ghosts-differing g a = record { name = a.blank.name; parts = a.blank.parts }

abbrev pub ghosts-differing-2 : goal.ghosts-differing-2
ghosts-differing-2 g a = record { name = a.blank.name; parts = a.blank.parts }
