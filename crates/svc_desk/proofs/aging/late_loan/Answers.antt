use Rattle.std.proofs.Common.{◌≤◌, arith, sym, subst}
use Rattle.std.specs.Prelude.{pos, ◌<ℤ◌}
use Rattle.svc_types.specs.declared.books.Books.{Books}
use Rattle.svc_world.specs.Desk as desk
use Rattle.svc_desk.proofs.TellingLemmas.{late_is_open}
use Rattle.svc_desk.proofs.aging.late_loan.Goals as goal

pub overflow_sub-books : goal.overflow_sub-books
overflow_sub-books g c =
    let l = c.args.loan.now.held in
    let some : 1 ≤ desk.days_late c.args.today l = subst (λ n. 1 ≤ n) c.requires.days c.requires.late in
    let owed = late_is_open l.account.terms c.args.today _ some in
    c.now-books.ensures.sound.signs.next_low (subst (λ (b : Books). pos 0 <ℤ b.upb) (sym c.now-books.ensures.books) owed)

pub add_months-requires : goal.add_months-requires
add_months-requires g c =
    let l = c.args.loan.now.held in
    let some : 1 ≤ desk.days_late c.args.today l = subst (λ n. 1 ≤ n) c.requires.days c.requires.late in
    let owed = late_is_open l.account.terms c.args.today _ some in
    let high = c.now-books.ensures.sound.signs.next_high (subst (λ (b : Books). pos 0 <ℤ b.upb) (sym c.now-books.ensures.books) owed) in
    let sound = c.is_sound.ensures.account in
    let first = sound.terms.first_high in
    let term = sound.terms.term_high in
    let last = sound.boarded.last in
    let same = c.terms-terms.ensures in
    rw same (omega (arith, high, first, term, last))
