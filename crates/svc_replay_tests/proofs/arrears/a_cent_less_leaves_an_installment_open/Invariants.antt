use Rattle.svc_replay_tests.proofs.arrears.a_cent_less_leaves_an_installment_open.Given as goal

abbrev pub ghosts-cent_by_cent : goal.ghosts-cent_by_cent
ghosts-cent_by_cent g a = record { name = a.blank.name; parts = a.blank.parts }

abbrev pub ghosts-cent_by_cent-2 : goal.ghosts-cent_by_cent-2
ghosts-cent_by_cent-2 g a = record { name = a.blank.name; parts = a.blank.parts }
