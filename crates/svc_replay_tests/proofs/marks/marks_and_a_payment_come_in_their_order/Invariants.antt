use Rattle.svc_replay_tests.proofs.marks.marks_and_a_payment_come_in_their_order.Given as goal

abbrev pub ghosts-after_payment : goal.ghosts-after_payment
ghosts-after_payment g a = record { name = a.blank.name; parts = a.blank.parts }
