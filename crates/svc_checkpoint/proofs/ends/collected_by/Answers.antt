use Rattle.std.proofs.Common.{refl, sym, ap, subst, ◌∙◌, arith}
use Rattle.svc_base.specs.Calendar.{last_day}
use Rattle.svc_spec.proofs.MonthLemmas.{end_before_next, past_month}
use Rattle.svc_types.specs.Collected.{collected_of}
use Rattle.svc_replay.specs.Collected.{AreWithin}
use Rattle.svc_replay.proofs.PlainLemmas.{within_books}
use Rattle.svc_checkpoint.proofs.EndsLemmas.{at_end, end_collected, end_within, end_now}
use Rattle.svc_checkpoint.proofs.ends.collected_by.Goals as goal

pub returns-then-place-ends-clause-collected : goal.returns-then-place-ends-clause-collected
returns-then-place-ends-clause-collected c =
    let a = c.args.kept.now.account in
    let m = c.args.month in
    let e = c.index-ends-place.result in
    let is = at_end a c.args.ends.now _ c.place_of-place.result m e c.requires.ends c.index-ends-place.is (omega arith) (omega arith) in
    let count = c.requires.count in
    let end = end_before_next m a.today (omega arith) in
    c.collected.ensures ∙ end_collected a (last_day m) e is ∙ ap collected_of (sym (past_month a m (last_day m) c.requires.after refl end))

pub returns-then-place-ends-clause-within : goal.returns-then-place-ends-clause-within
returns-then-place-ends-clause-within c =
    let a = c.args.kept.now.account in
    let m = c.args.month in
    let e = c.index-ends-place.result in
    let is = at_end a c.args.ends.now _ c.place_of-place.result m e c.requires.ends c.index-ends-place.is (omega arith) (omega arith) in
    end_within a (last_day m) e c.collected.result c.requires.account is c.collected.ensures

pub returns-clause-collected : goal.returns-clause-collected
returns-clause-collected c =
    let count = c.requires.count in
    c.of.ensures ∙ ap collected_of (end_now c.args.kept.now.account c.args.month c.args.now.now c.requires.today c.requires.after (omega arith) c.requires.now)

pub returns-clause-within : goal.returns-clause-within
returns-clause-within c = subst AreWithin (sym c.of.ensures) (within_books c.args.kept.now.account.terms c.args.now.now c.requires.account.terms c.requires.sound)
