use Rattle.std.proofs.Common.{◌≡◌, ℕ, ◌+◌, ◌-◌, ◌<◌, sym, ap, subst, ◌∙◌, arith}
use Rattle.svc_base.specs.Calendar.{month_of, last_day}
use Rattle.svc_types.specs.declared.terms.Terms.{Terms}
use Rattle.svc_types.specs.declared.books.Books.{Books}
use Rattle.svc_spec.specs.Accounts.{Account, books_of}
use Rattle.svc_checkpoint.specs.Ends.{IsEnd}
use Rattle.svc_checkpoint.proofs.EndsLemmas.{IsStart, at_end, start_first, start_later}
use Rattle.svc_checkpoint.proofs.ends.folded_before.Goals as goal

pub returns-then-place-eq0-clause-books : goal.returns-then-place-eq0-clause-books
returns-then-place-eq0-clause-books g c =
    let a = c.args.kept.now.account in
    let boarded = ap (λ (t : Terms). t.boarded) c.terms.ensures in
    let start = start_first a c.args.month c.terms.result.now.boarded c.args.steps.now c.refolded.new.steps c.refolded.result (omega arith) boarded c.refolded.ensures.books c.refolded.ensures.counted in
    start.books

pub returns-then-place-eq0-clause-day : goal.returns-then-place-eq0-clause-day
returns-then-place-eq0-clause-day g c =
    let a = c.args.kept.now.account in
    let boarded = ap (λ (t : Terms). t.boarded) c.terms.ensures in
    let start = start_first a c.args.month c.terms.result.now.boarded c.args.steps.now c.refolded.new.steps c.refolded.result (omega arith) boarded c.refolded.ensures.books c.refolded.ensures.counted in
    start.day

pub returns-then-place-eq0-clause-steps : goal.returns-then-place-eq0-clause-steps
returns-then-place-eq0-clause-steps g c =
    let a = c.args.kept.now.account in
    let boarded = ap (λ (t : Terms). t.boarded) c.terms.ensures in
    let start = start_first a c.args.month c.terms.result.now.boarded c.args.steps.now c.refolded.new.steps c.refolded.result (omega arith) boarded c.refolded.ensures.books c.refolded.ensures.counted in
    start.steps

pub books_from-requires : goal.books_from-requires
books_from-requires g c =
    let a = c.args.kept.now.account in
    let m = c.args.month in
    let e = c.index-ends-place.result in
    let before : c.previous.result ≡ m - 1 = omega (arith, c.previous.ensures) in
    let day = c.last_day.ensures ∙ ap last_day before in
    subst (λ d. IsEnd a d e) (sym day) (at_end a c.args.ends.now (m - month_of a.terms.boarded) (c.place_of-place.result - 1) (m - 1) e c.requires.ends c.index-ends-place.is (omega arith) (omega arith))

-- they are those of the last day of the month before
later : (a : Account) (m before day steps : ℕ) (b : Books) → before + 1 ≡ m → day ≡ last_day before → b ≡ books_of a day → month_of a.terms.boarded < m → IsStart a m steps steps b
later a m before day steps b next last is after =
    let same : before ≡ m - 1 = omega arith in
    start_later a m steps b (is ∙ ap (books_of a) (last ∙ ap last_day same)) after

pub returns-clause-books : goal.returns-clause-books
returns-clause-books g c =
    let start = later c.args.kept.now.account c.args.month c.previous.result c.last_day.result c.args.steps.now c.books_from.result c.previous.ensures c.last_day.ensures c.books_from.ensures.books (omega arith) in
    start.books

pub returns-clause-day : goal.returns-clause-day
returns-clause-day g c =
    let start = later c.args.kept.now.account c.args.month c.previous.result c.last_day.result c.args.steps.now c.books_from.result c.previous.ensures c.last_day.ensures c.books_from.ensures.books (omega arith) in
    start.day

pub returns-clause-steps : goal.returns-clause-steps
returns-clause-steps g c =
    let start = later c.args.kept.now.account c.args.month c.previous.result c.last_day.result c.args.steps.now c.books_from.result c.previous.ensures c.last_day.ensures c.books_from.ensures.books (omega arith) in
    start.steps
