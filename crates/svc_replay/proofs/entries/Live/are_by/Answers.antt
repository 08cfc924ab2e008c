use Rattle.std.proofs.Common.{arith, sym, ◌∙◌}
use Rattle.svc_base.proofs.CentsRules.{is_le-nat_cmp}
use Rattle.svc_spec.proofs.SettlingLemmas.{from_nat_le, from_not_nat_le}
use Rattle.svc_replay.proofs.AfterLemmas.{first_taken, last_dropped}
use Rattle.svc_replay.proofs.entries.Live.are_by.Goals as goal

pub returns-else-count-eq0-clause-taken : goal.returns-else-count-eq0-clause-taken
returns-else-count-eq0-clause-taken c = λ is. first_taken c.args.self.now c.args.day c.args.count c.at.result c.requires.order c.requires.count c.at.ensures (λ some. from_nat_le c.at.result.day c.args.day (sym (is_le-nat_cmp c.at.result.day c.args.day) ∙ sym c.le.ensures ∙ is))

pub returns-else-count-eq0-clause-later : goal.returns-else-count-eq0-clause-later
returns-else-count-eq0-clause-later c = λ is. last_dropped c.args.self.now c.args.day c.args.count c.at.result c.requires.order c.requires.count (let other = c.if-count-eq0.false in omega (arith, other)) c.at.ensures (from_not_nat_le c.at.result.day c.args.day (sym (is_le-nat_cmp c.at.result.day c.args.day) ∙ sym c.le.ensures ∙ is))
