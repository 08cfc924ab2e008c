use Rattle.svc_replay_tests.proofs.histories.a_reversed_payment_is_as_if_it_had_never_been.Given as goal

abbrev pub ghosts-reversal : goal.ghosts-reversal
ghosts-reversal g a = record { name = a.blank.name; parts = a.blank.parts }

abbrev pub ghosts-reversal-2 : goal.ghosts-reversal-2
ghosts-reversal-2 g a = record { name = a.blank.name; parts = a.blank.parts }
