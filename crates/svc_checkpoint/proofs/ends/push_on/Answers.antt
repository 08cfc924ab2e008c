use Rattle.std.proofs.Common.{◌+◌, ◌<◌, ◌∷◌, [], ◌++◌, length, refl, sym, ap, subst, ◌∙◌, arith, rules, length-append}
use Rattle.svc_base.specs.Calendar.{month_of, last_day}
use Rattle.svc_spec.specs.Accounts.{live_of}
use Rattle.svc_spec.specs.Months.{counted}
use Rattle.svc_spec.proofs.MonthLemmas.{end_before_next}
use Rattle.svc_spec.proofs.StepsLemmas.{ends_rise}
use Rattle.svc_checkpoint.specs.Ends.{IsEnd}
use Rattle.svc_checkpoint.proofs.EndsLemmas.{live_count, live_fold, own_day, of_account, counted_of, ends_pushed, place_of, place_in}
use Rattle.svc_checkpoint.proofs.ends.push_on.Goals as goal

pub fold_along-requires-clause-count : goal.fold_along-requires-clause-count
fold_along-requires-clause-count g c = live_count c.args.kept.now.account c.live.result c.is_account.ensures c.live.ensures

pub fold_along-requires-clause-entries : goal.fold_along-requires-clause-entries
fold_along-requires-clause-entries g c = live_fold c.args.kept.now.account c.terms.result.now c.live.result c.is_account.ensures c.terms.ensures c.live.ensures

pub fold_along-requires-2-clause-count : goal.fold_along-requires-2-clause-count
fold_along-requires-2-clause-count g c = live_count c.args.kept.now.account c.live-2.result c.is_account.ensures c.live-2.ensures

pub fold_along-requires-2-clause-entries : goal.fold_along-requires-2-clause-entries
fold_along-requires-2-clause-entries g c = live_fold c.args.kept.now.account c.terms-2.result.now c.live-2.result c.is_account.ensures c.terms-2.ensures c.live-2.ensures

pub fold_along-requires-clause-place : goal.fold_along-requires-clause-place
fold_along-requires-clause-place g c = place_of c.args.kept.now.account c.terms.result.now c.live.result c.loop-last.now.day c.loop-last.now.day c.loop-last.cursor c.terms.ensures c.live.ensures refl c.loop-last.invariant.place

pub fold_along-requires-2-clause-place : goal.fold_along-requires-2-clause-place
fold_along-requires-2-clause-place g c = place_of c.args.kept.now.account c.terms-2.result.now c.live-2.result c.loop-last.now.day c.loop-last.now.day c.loop-last.cursor c.terms-2.ensures c.live-2.ensures refl c.loop-last.invariant.place

pub returns-clause-place : goal.returns-clause-place
returns-clause-place g c = place_in c.args.kept.now.account c.terms-2.result.now c.live-2.result c.args.day c.args.day c.fold_along-2.new.cursor c.terms-2.ensures c.live-2.ensures refl c.fold_along-2.ensures.place

pub end_with-requires-clause-books : goal.end_with-requires-clause-books
end_with-requires-clause-books g c =
    let t = c.terms.result.now in
    let live = c.live.result in
    let r = c.fold_along.new.books in
    let own = own_day t live c.last_day.result r c.fold_along.ensures.books in
    own.1 ∙ of_account c.args.kept.now.account t live r.day c.terms.ensures c.live.ensures

pub loop-last-preserved : goal.loop-last-preserved
loop-last-preserved g c =
    let a = c.args.kept.now.account in
    let t = c.terms.result.now in
    let live = c.live.result in
    let m = c.loop-last.month in
    let r = c.fold_along.new.books in
    let old = c.loop-last.ends.items in
    let e = c.end_with.result in
    let before = c.loop-last.invariant in
    let own = own_day t live c.last_day.result r c.fold_along.ensures.books in
    let day = own.0 in
    let later : m < c.month_of-last.result = search rules in
    let end = end_before_next m c.args.day (omega arith) in
    let next = ap last_day c.plus-month.ensures in
    let more = length-append old (e ∷ []) in
    let pushed = ap length c.push_reserved.ensures.items in
    let is : IsEnd a (last_day (month_of a.terms.boarded + length old)) e = subst (λ d. IsEnd a d e) (day ∙ c.last_day.ensures ∙ ap last_day (sym before.count)) c.end_with.ensures.end in
    let here = counted_of a t live c.loop-last.now.day c.terms.ensures c.live.ensures in
    let there = counted_of a t live c.last_day.result c.terms.ensures c.live.ensures in
    let last = ap (counted a.terms (live_of a)) (sym day) in
    record {
      place = place_in a t live c.last_day.result r.day c.fold_along.new.cursor c.terms.ensures c.live.ensures day c.fold_along.ensures.place;
      high = omega arith;
      books = own.1 ∙ of_account a t live r.day c.terms.ensures c.live.ensures;
      since = omega arith;
      until = omega arith;
      here = omega (arith, ends_rise m 1);
      count = omega arith;
      len = omega arith;
      capacity = c.push_reserved.ensures.capacity ∙ before.capacity;
      ends = rw c.push_reserved.ensures.items (ends_pushed a old (length old) (length (old ++ e ∷ [])) e before.ends refl (omega arith) is);
      plans = c.end_with.ensures.plans;
      steps = omega (arith, c.fold_along.ensures.steps, here, there, last, before.steps);
    }
