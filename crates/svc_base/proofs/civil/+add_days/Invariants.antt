use Rattle.svc_base.proofs.civil.+add_days.Given as goal

abbrev pub decreases-add_days : goal.decreases-add_days
decreases-add_days l = l.n
