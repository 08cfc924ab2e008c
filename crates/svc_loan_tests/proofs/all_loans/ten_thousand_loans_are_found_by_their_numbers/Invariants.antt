use Rattle.svc_loan_tests.proofs.all_loans.ten_thousand_loans_are_found_by_their_numbers.Given as goal

abbrev pub ghosts-look : goal.ghosts-look
ghosts-look g a = record { name = a.blank.name; parts = a.blank.parts }
