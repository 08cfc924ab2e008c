use Rattle.std.proofs.Common.{◌+◌, length, sym, ap, ◌∙◌, arith}
use Rattle.svc_base.specs.Calendar.{month_of}
use Rattle.svc_spec.specs.Accounts.{Account, live_of}
use Rattle.svc_spec.specs.Months.{counted}
use Rattle.svc_checkpoint.proofs.EndsLemmas.{own_day, live_fold, place_in, within_begin}
use Rattle.svc_checkpoint.proofs.checked.CheckedLoanBooks.begin.Goals as goal

pub push_on-requires-clause-after : goal.push_on-requires-clause-after
push_on-requires-clause-after g c =
    let a = c.new-kept.result.account in
    let own = own_day a.terms (live_of a) c.args.terms.boarded c.refolded-now.result c.refolded-now.ensures.books in
    let day = own.0 in
    let boarded = ap (λ (x : Account). x.terms.boarded) c.new-kept.ensures in
    omega arith

pub push_on-requires-clause-until : goal.push_on-requires-clause-until
push_on-requires-clause-until g c =
    let a = c.new-kept.result.account in
    let own = own_day a.terms (live_of a) c.args.terms.boarded c.refolded-now.result c.refolded-now.ensures.books in
    let day = own.0 in
    let boarded = ap (λ (x : Account). x.terms.boarded) c.new-kept.ensures in
    omega arith

pub push_on-requires-clause-books : goal.push_on-requires-clause-books
push_on-requires-clause-books g c =
    let a = c.new-kept.result.account in
    let own = own_day a.terms (live_of a) c.args.terms.boarded c.refolded-now.result c.refolded-now.ensures.books in
    let day = own.0 in
    let boarded = ap (λ (x : Account). x.terms.boarded) c.new-kept.ensures in
    own.1

pub push_on-requires-clause-count : goal.push_on-requires-clause-count
push_on-requires-clause-count g c =
    let a = c.new-kept.result.account in
    let own = own_day a.terms (live_of a) c.args.terms.boarded c.refolded-now.result c.refolded-now.ensures.books in
    let day = own.0 in
    let boarded = ap (λ (x : Account). x.terms.boarded) c.new-kept.ensures in
    let month = ap month_of day in
    let first = ap month_of boarded in
    omega (arith, ap length c.in_ok-make_room.ensures.items, ap length c.new-ends.ensures.items)

pub push_on-requires-clause-room : goal.push_on-requires-clause-room
push_on-requires-clause-room g c =
    let a = c.new-kept.result.account in
    let own = own_day a.terms (live_of a) c.args.terms.boarded c.refolded-now.result c.refolded-now.ensures.books in
    let day = own.0 in
    let boarded = ap (λ (x : Account). x.terms.boarded) c.new-kept.ensures in
    let month = ap month_of day in
    omega (arith, c.in_ok-make_room.ensures.ok, c.months_between.ensures)

pub after-cursor-requires-clause-order : goal.after-cursor-requires-clause-order
after-cursor-requires-clause-order g c =
    let all = live_fold c.new-kept.result.account c.terms.result.now c.live.result c.refolded-now.ensures.account c.terms.ensures c.live.ensures in
    all.order

pub push_on-requires-clause-place : goal.push_on-requires-clause-place
push_on-requires-clause-place g c =
    let a = c.new-kept.result.account in
    let own = own_day a.terms (live_of a) c.args.terms.boarded c.refolded-now.result c.refolded-now.ensures.books in
    place_in a c.terms.result.now c.live.result c.args.terms.boarded c.refolded-now.result.day c.after-cursor.result c.terms.ensures c.live.ensures own.0 c.after-cursor.ensures

pub returns-clause-steps : goal.returns-clause-steps
returns-clause-steps g c =
    let a = c.new-kept.result.account in
    let own = own_day a.terms (live_of a) c.args.terms.boarded c.refolded-now.result c.refolded-now.ensures.books in
    let day = own.0 in
    let boarded = ap (λ (x : Account). x.terms.boarded) c.new-kept.ensures in
    let today = ap (λ (x : Account). x.today) c.new-kept.ensures in
    let first = ap (counted a.terms (live_of a)) (sym boarded) in
    let last = ap (counted a.terms (live_of a)) (sym today) in
    rw c.new-kept.ensures at (within_begin a c.refolded-now.result.day c.args.steps.now c.refolded-now.new.steps c.push_on.new.steps c.refolded-now.ensures.account (day ∙ sym boarded) (c.refolded-now.ensures.counted ∙ ap (λ x. c.args.steps.now + x) first) (c.push_on.ensures.steps ∙ ap (λ x. c.refolded-now.new.steps + x) last))
