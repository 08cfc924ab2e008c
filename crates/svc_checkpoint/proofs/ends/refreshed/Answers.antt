use Rattle.std.proofs.Common.{◌+◌, ◌≤◌, ◌<◌, length-set, refl, sym, ap, subst, ◌∙◌, arith, rules}
use Rattle.svc_base.specs.Calendar.{month_of, last_day}
use Rattle.svc_types.specs.declared.terms.Terms.{Terms}
use Rattle.svc_checkpoint.specs.declared.month_end.MonthEnd.{MonthEnd}
use Rattle.svc_spec.specs.Accounts.{live_of, books_of}
use Rattle.svc_spec.specs.Months.{counted}
use Rattle.svc_spec.proofs.MonthLemmas.{day_by_end}
use Rattle.svc_checkpoint.specs.Ends.{IsEnd, day_before}
use Rattle.svc_checkpoint.proofs.EndsLemmas.{month_of_end, ends_set, own_day, of_account, counted_of, live_count, live_fold, before_since, before_until, day_next, place_of, place_in}
use Rattle.svc_checkpoint.proofs.ends.refreshed.Goals as goal

pub after-cursor-requires-clause-order : goal.after-cursor-requires-clause-order
after-cursor-requires-clause-order g c =
    let all = live_fold c.args.kept.now.account c.terms-terms.result.now c.live-live.result c.is_account.ensures c.terms-terms.ensures c.live-live.ensures in
    all.order

pub fold_along-requires-clause-since : goal.fold_along-requires-clause-since
fold_along-requires-clause-since g c =
    let boarded = ap (λ (t : Terms). t.boarded) c.terms-terms.ensures in
    omega (arith, boarded, c.loop-last.invariant.day, before_since c.args.kept.now.account c.loop-last.month c.is_account.ensures)

pub fold_along-requires-clause-until : goal.fold_along-requires-clause-until
fold_along-requires-clause-until g c =
    let a = c.args.kept.now.account in
    let m = c.loop-last.month in
    let low = c.loop-last.invariant.low in
    let same = month_of_end m in
    let since = day_by_end a.terms.boarded m c.is_account.ensures.boarded (omega arith) in
    omega (arith, c.loop-last.invariant.day, c.last_day-day.ensures, before_until a m (last_day m) (omega arith) since)

pub fold_along-requires-clause-count : goal.fold_along-requires-clause-count
fold_along-requires-clause-count g c = live_count c.args.kept.now.account c.live-live.result c.is_account.ensures c.live-live.ensures

pub fold_along-requires-clause-entries : goal.fold_along-requires-clause-entries
fold_along-requires-clause-entries g c = live_fold c.args.kept.now.account c.terms-terms.result.now c.live-live.result c.is_account.ensures c.terms-terms.ensures c.live-live.ensures

pub fold_along-requires-clause-earlier : goal.fold_along-requires-clause-earlier
fold_along-requires-clause-earlier g c = c.loop-last.invariant.books ∙ sym (of_account c.args.kept.now.account c.terms-terms.result.now c.live-live.result c.loop-last.books.day c.terms-terms.ensures c.live-live.ensures)

pub fold_along-requires-clause-place : goal.fold_along-requires-clause-place
fold_along-requires-clause-place g c = place_of c.args.kept.now.account c.terms-terms.result.now c.live-live.result c.loop-last.books.day c.loop-last.books.day c.loop-last.cursor c.terms-terms.ensures c.live-live.ensures refl c.loop-last.invariant.place

pub fold_along-requires-2-clause-since : goal.fold_along-requires-2-clause-since
fold_along-requires-2-clause-since g c =
    let boarded = ap (λ (t : Terms). t.boarded) c.terms-terms.ensures in
    omega (arith, boarded, c.loop-last.invariant.day, before_since c.args.kept.now.account c.loop-last.month c.is_account.ensures)

pub fold_along-requires-2-clause-until : goal.fold_along-requires-2-clause-until
fold_along-requires-2-clause-until g c =
    let a = c.args.kept.now.account in
    let high = c.loop-last.invariant.high in
    let after = c.is_account.ensures.after in
    let last = ap month_of c.today.ensures in
    omega (arith, c.loop-last.invariant.day, c.today-2.ensures, before_until a c.loop-last.month a.today (omega arith) after)

pub fold_along-requires-2-clause-count : goal.fold_along-requires-2-clause-count
fold_along-requires-2-clause-count g c = live_count c.args.kept.now.account c.live-live.result c.is_account.ensures c.live-live.ensures

pub fold_along-requires-2-clause-entries : goal.fold_along-requires-2-clause-entries
fold_along-requires-2-clause-entries g c = live_fold c.args.kept.now.account c.terms-terms.result.now c.live-live.result c.is_account.ensures c.terms-terms.ensures c.live-live.ensures

pub fold_along-requires-2-clause-earlier : goal.fold_along-requires-2-clause-earlier
fold_along-requires-2-clause-earlier g c = c.loop-last.invariant.books ∙ sym (of_account c.args.kept.now.account c.terms-terms.result.now c.live-live.result c.loop-last.books.day c.terms-terms.ensures c.live-live.ensures)

pub fold_along-requires-2-clause-place : goal.fold_along-requires-2-clause-place
fold_along-requires-2-clause-place g c = place_of c.args.kept.now.account c.terms-terms.result.now c.live-live.result c.loop-last.books.day c.loop-last.books.day c.loop-last.cursor c.terms-terms.ensures c.live-live.ensures refl c.loop-last.invariant.place

pub plans_before-plans-requires-clause-ends : goal.plans_before-plans-requires-clause-ends
plans_before-plans-requires-clause-ends g c = rw c.deref-2.ensures.value (λ i x lt. c.requires.ends i x (omega (arith, c.place_of.ensures)))

pub end_with-requires-clause-books : goal.end_with-requires-clause-books
end_with-requires-clause-books g c =
    let t = c.terms-terms.result.now in
    let live = c.live-live.result in
    let r = c.fold_along.new.books in
    let own = own_day t live c.last_day-day.result r c.fold_along.ensures.books in
    own.1 ∙ of_account c.args.kept.now.account t live r.day c.terms-terms.ensures c.live-live.ensures

pub loop-last-init : goal.loop-last-init
loop-last-init g c = record {
  low = omega arith;
  high = omega arith;
  count = refl;
  len = refl;
  capacity = refl;
  ends = c.requires.ends;
  books = c.folded_before-books.ensures.books;
  day = c.folded_before-books.ensures.day;
  place = place_in c.args.kept.now.account c.terms-terms.result.now c.live-live.result c.folded_before-books.result.day c.folded_before-books.result.day c.after-cursor.result c.terms-terms.ensures c.live-live.ensures refl c.after-cursor.ensures;
  plans = c.plans_before-plans.ensures;
  steps = c.folded_before-books.ensures.steps;
}

pub loop-last-preserved : goal.loop-last-preserved
loop-last-preserved g c =
    let a = c.args.kept.now.account in
    let t = c.terms-terms.result.now in
    let live = c.live-live.result in
    let m = c.loop-last.month in
    let r = c.fold_along.new.books in
    let old = c.loop-last.ends.items in
    let place = c.place_of-place.result in
    let before = c.loop-last.invariant in
    let low = before.low in
    let count = before.count in
    let more : m < c.month_of-last.result = search (rules, c.loop-last-test.ensures, c.loop-last-test.true, c.lt.ensures) in
    let own = own_day t live c.last_day-day.result r c.fold_along.ensures.books in
    let e = c.end_with.result in
    let is : IsEnd a (last_day (month_of a.terms.boarded + place)) e = subst (λ d. IsEnd a d e) (own.0 ∙ c.last_day-day.ensures ∙ ap last_day (sym c.place_of-place.ensures)) c.end_with.ensures.end in
    let here = counted_of a t live c.loop-last.books.day c.terms-terms.ensures c.live-live.ensures in
    let there = counted_of a t live c.last_day-day.result c.terms-terms.ensures c.live-live.ensures in
    let last = ap (counted a.terms (live_of a)) (sym own.0) in
    record {
      low = omega arith;
      high = omega arith;
      count = omega (arith, length-set {A = MonthEnd});
      len = before.len;
      capacity = before.capacity;
      ends = λ i x lt. ends_set a old place e (λ k d within. before.ends k d (omega arith)) (omega arith) is i x (omega arith);
      books = own.1 ∙ of_account a t live r.day c.terms-terms.ensures c.live-live.ensures;
      day = own.0 ∙ c.last_day-day.ensures ∙ sym (day_next a m (omega arith)) ∙ ap (day_before a) (sym c.plus-month.ensures);
      place = place_in a t live c.last_day-day.result r.day c.fold_along.new.cursor c.terms-terms.ensures c.live-live.ensures own.0 c.fold_along.ensures.place;
      plans = c.end_with.ensures.plans;
      steps = omega (arith, c.fold_along.ensures.steps, here, there, last, before.steps);
    }

pub returns-clause-books : goal.returns-clause-books
returns-clause-books g c = c.fold_along-2.ensures.books ∙ of_account c.args.kept.now.account c.terms-terms.result.now c.live-live.result c.today-2.result c.terms-terms.ensures c.live-live.ensures ∙ ap (books_of c.args.kept.now.account) c.today-2.ensures

pub returns-clause-steps : goal.returns-clause-steps
returns-clause-steps g c =
    let a = c.args.kept.now.account in
    let t = c.terms-terms.result.now in
    let live = c.live-live.result in
    let here = counted_of a t live c.loop-last.books.day c.terms-terms.ensures c.live-live.ensures in
    let there = counted_of a t live c.today-2.result c.terms-terms.ensures c.live-live.ensures in
    let last = ap (counted a.terms (live_of a)) c.today-2.ensures in
    omega (arith, here, there, last, c.loop-last.invariant.steps, c.fold_along-2.ensures.steps)

pub returns-clause-ends : goal.returns-clause-ends
returns-clause-ends g c = λ i e lt.
    let count = c.loop-last.invariant.count in
    let whole = c.requires.count in
    let last = ap month_of c.today.ensures in
    let back : c.month_of-last.result ≤ c.loop-last.month = search (rules, c.loop-last-test.ensures, c.loop-last-test.false, c.lt.ensures) in
    c.loop-last.invariant.ends i e (omega arith)
