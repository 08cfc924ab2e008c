use Rattle.svc_loan_tests.proofs.calls.what_entries_brought_in_and_paid_out.Given as goal

abbrev pub ghosts-moved_otherwise : goal.ghosts-moved_otherwise
ghosts-moved_otherwise g a = record { name = a.blank.name; parts = a.blank.parts }
