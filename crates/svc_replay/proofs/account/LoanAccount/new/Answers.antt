use Rattle.svc_replay.proofs.KeptLemmas.{kept_new}
use Rattle.svc_replay.proofs.account.LoanAccount.new.Goals as goal

pub invariant_of-result : goal.invariant_of-result
invariant_of-result c = kept_new c.args.terms c.args.today c.new.result.all c.new-3.result.items c.new.result.live c.new-2.result.items c.new.ensures.all c.new-3.ensures.items c.new.ensures.live c.new-2.ensures.items c.requires
