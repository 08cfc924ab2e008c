use Rattle.svc_loan_tests.proofs.calls.a_loan_answers_for_itself.Given as goal

abbrev pub ghosts-ask_of_new : goal.ghosts-ask_of_new
ghosts-ask_of_new g a = record { name = a.blank.name; parts = a.blank.parts }

abbrev pub ghosts-ask_of_new-2 : goal.ghosts-ask_of_new-2
ghosts-ask_of_new-2 g a = record { name = a.blank.name; parts = a.blank.parts }
