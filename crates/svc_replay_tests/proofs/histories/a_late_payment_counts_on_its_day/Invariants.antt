use Rattle.svc_replay_tests.proofs.histories.a_late_payment_counts_on_its_day.Given as goal

abbrev pub ghosts-late_payment : goal.ghosts-late_payment
ghosts-late_payment g a = record { name = a.blank.name; parts = a.blank.parts }

abbrev pub ghosts-late_payment-2 : goal.ghosts-late_payment-2
ghosts-late_payment-2 g a = record { name = a.blank.name; parts = a.blank.parts }
