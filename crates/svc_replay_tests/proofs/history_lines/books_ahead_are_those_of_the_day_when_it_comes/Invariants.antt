use Rattle.svc_replay_tests.proofs.history_lines.books_ahead_are_those_of_the_day_when_it_comes.Given as goal

abbrev pub ghosts-payoff_ahead : goal.ghosts-payoff_ahead
ghosts-payoff_ahead g a = record { name = a.blank.name; parts = a.blank.parts }

abbrev pub ghosts-payoff_ahead-2 : goal.ghosts-payoff_ahead-2
ghosts-payoff_ahead-2 g a = record { name = a.blank.name; parts = a.blank.parts }
