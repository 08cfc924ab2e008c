use Rattle.std.proofs.Common.{◌≡◌, w64, rules, arith, ap, ◌∙◌}
use Rattle.std.specs.Prelude.{◌+ℤ◌}
use Rattle.std.specs.Int.RustNames.{FitsSigned}
use Rattle.std.proofs.lemmas.Int.{ints, to_z-of_z}
use Rattle.svc_types.specs.declared.books.Books.{Books}
use Rattle.advance_book.specs.Positions.{escrow_advanced}
use Rattle.svc_loan.specs.declared.moved.Moved.{Moved}
use Rattle.svc_loan.proofs.ClosedLemmas.{cents_same}
use Rattle.svc_custody.specs.Cash.{totals_at}
use Rattle.svc_custody.proofs.CashLemmas.{same_totals}
use Rattle.svc_custody.proofs.PositionLemmas.{same_position}
use Rattle.svc_custody.proofs.cash.kept_position.Given.{Over}
use Rattle.svc_custody.proofs.cash.kept_position.Goals as goal

-- the totals are those of the loan as it is kept
totals_are : (g : Over) (c : goal.After-struct_told-1 g) → c.totals.result ≡ totals_at c.args.remitted c.args.loan.now
unfolding totals_at
totals_are g c =
    let e = c.totals.ensures in
    let pi = c.pi_of-pi.ensures in
    let is = c.now-books.ensures.books in
    let asked = c.requires.remitted in
    same_totals
    (e.received ∙ ap (λ (m : Moved). m.received) c.moved.ensures)
    (e.returned ∙ ap (λ (m : Moved). m.returned) c.moved.ensures)
    (e.refunded ∙ ap (λ (m : Moved). m.refunded) c.moved.ensures)
    (e.disbursed ∙ ap (λ (m : Moved). m.disbursed) c.moved.ensures)
    (e.collected ∙ ap (λ (b : Books). b.interest +ℤ b.principal) is)
    (e.fee ∙ ap (λ (b : Books). b.fee) is)
    (e.late ∙ ap (λ (b : Books). b.late_paid) is)
    (e.pi_advance ∙ pi.advanced)
    (e.escrow_advance ∙ ap (λ (b : Books). escrow_advanced b.escrow) is)
    (e.remitted ∙ cents_same c.remitted.result (let l = asked.low in let r = c.remitted.ensures in omega (arith, ints)) (let m = asked.high in let r = c.remitted.ensures in omega (arith, ints)) ∙ c.remitted.ensures)
    (e.residual ∙ pi.residual)

pub returns : goal.returns
returns g c =
    let is = c.now-books.ensures.books in
    let suspense : FitsSigned w64 c.now-books.result.now.suspense = search rules in
    let escrow : FitsSigned w64 c.now-books.result.now.escrow = search rules in
    let held : FitsSigned w64 c.pi_of-pi.result.held = search rules in
    same_position (totals_are g c)
    (to_z-of_z w64 c.now-books.result.now.suspense suspense ∙ ap (λ (b : Books). b.suspense) is)
    (to_z-of_z w64 c.now-books.result.now.escrow escrow ∙ ap (λ (b : Books). b.escrow) is)
    (to_z-of_z w64 c.pi_of-pi.result.held held ∙ c.pi_of-pi.ensures.held)
