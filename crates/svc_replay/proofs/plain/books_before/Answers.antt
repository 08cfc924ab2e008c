use Rattle.std.proofs.Common.{◌≡◌, ◌-◌, ◌≤◌, ◌<◌, sym, ap, ◌∙◌, arith}
use Rattle.svc_base.specs.Calendar.{month_of, last_day}
use Rattle.svc_base.proofs.CentsRules.{is_le-nat_cmp}
use Rattle.svc_types.specs.declared.terms.Terms.{Terms}
use Rattle.svc_spec.specs.Books.{start}
use Rattle.svc_spec.proofs.SettlingLemmas.{from_nat_le, from_not_nat_le}
use Rattle.svc_spec.proofs.MonthLemmas.{boarded_some, end_before_next, before_boarded, past_month}
use Rattle.svc_replay.proofs.plain.books_before.Goals as goal

pub returns-then-le-clause-books : goal.returns-then-le-clause-books
returns-then-le-clause-books g c =
    let a = c.args.kept.now.account in
    let some = boarded_some a.terms.boarded c.is_account.ensures.boarded in
    let boarded : c.month_of.result ≡ month_of a.terms.boarded = c.month_of.ensures ∙ ap (λ (t : Terms). month_of t.boarded) c.terms.ensures in
    let first : c.args.month ≤ c.month_of.result = from_nat_le c.args.month c.month_of.result (sym (is_le-nat_cmp c.args.month c.month_of.result) ∙ sym c.le.ensures ∙ c.if-le.true) in
    c.start.ensures.start ∙ ap start c.terms-then-le.ensures ∙ sym (before_boarded a (c.args.month - 1) (omega arith))

pub refolded-requires-clause-until : goal.refolded-requires-clause-until
refolded-requires-clause-until g c =
    let a = c.args.kept.now.account in
    let early = end_before_next c.previous.result a.today (omega arith) in
    omega arith

pub returns-clause-books : goal.returns-clause-books
returns-clause-books g c =
    let a = c.args.kept.now.account in
    let boarded : c.month_of.result ≡ month_of a.terms.boarded = c.month_of.ensures ∙ ap (λ (t : Terms). month_of t.boarded) c.terms.ensures in
    let later : c.month_of.result < c.args.month = from_not_nat_le c.args.month c.month_of.result (sym (is_le-nat_cmp c.args.month c.month_of.result) ∙ sym c.le.ensures ∙ c.if-le.false) in
    let month : c.previous.result ≡ c.args.month - 1 = omega arith in
    let early = end_before_next c.previous.result a.today (omega arith) in
    c.refolded.ensures.books ∙ sym (past_month a (c.args.month - 1) c.last_day.result (omega arith) (c.last_day.ensures ∙ ap last_day month) (omega arith))
