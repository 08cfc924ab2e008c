use Rattle.svc_loan_tests.proofs.all_loans.a_line_is_set_on_one_loan_alone.Given as goal

abbrev pub ghosts-set_and_drop : goal.ghosts-set_and_drop
ghosts-set_and_drop g a = record { name = a.blank.name; parts = a.blank.parts }
