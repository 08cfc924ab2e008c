use Rattle.std.proofs.Common.{◌-◌, refl, sym, ap, ◌∙◌, arith}
use Rattle.svc_base.specs.Calendar.{last_day}
use Rattle.svc_spec.specs.Books.{start}
use Rattle.svc_spec.proofs.MonthLemmas.{boarded_some, end_before_next, before_boarded, past_month}
use Rattle.svc_types.specs.Collected.{collected_of}
use Rattle.svc_checkpoint.proofs.EndsLemmas.{at_end, end_collected, end_within}
use Rattle.svc_checkpoint.proofs.ends.collected_before.Goals as goal

pub returns-then-place-eq0-clause-collected : goal.returns-then-place-eq0-clause-collected
returns-then-place-eq0-clause-collected c =
    let a = c.args.kept.now.account in
    let some = boarded_some a.terms.boarded c.is_account.ensures.boarded in
    c.of.ensures ∙ ap collected_of (c.start.ensures.start ∙ ap start c.terms.ensures ∙ sym (before_boarded a (c.args.month - 1) (omega arith)))

pub returns-clause-collected : goal.returns-clause-collected
returns-clause-collected c =
    let a = c.args.kept.now.account in
    let m = c.args.month - 1 in
    let e = c.index-ends-place.result in
    let is = at_end a c.args.ends.now _ (c.place_of-place.result - 1) m e c.requires.ends c.index-ends-place.is (omega arith) (omega arith) in
    let end = end_before_next m a.today (omega arith) in
    c.collected.ensures ∙ end_collected a (last_day m) e is ∙ ap collected_of (sym (past_month a m (last_day m) (omega arith) refl end))

pub returns-clause-within : goal.returns-clause-within
returns-clause-within c =
    let a = c.args.kept.now.account in
    let m = c.args.month - 1 in
    let e = c.index-ends-place.result in
    let is = at_end a c.args.ends.now _ (c.place_of-place.result - 1) m e c.requires.ends c.index-ends-place.is (omega arith) (omega arith) in
    end_within a (last_day m) e c.collected.result c.is_account.ensures is c.collected.ensures
