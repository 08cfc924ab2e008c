use Rattle.std.proofs.Common.{◌≡◌, w64, to_z, of_z, arith, ap, ◌∙◌}
use Rattle.std.specs.Prelude.{Bool, ℤ}
use Rattle.std.proofs.lemmas.Int.{ints}
use Rattle.advance_book.specs.Positions.{pi_held, pi_advanced, pi_residual}
use Rattle.svc_world.specs.Held.{books_now}
use Rattle.svc_world.specs.Custody.{collected}
use Rattle.svc_world.proofs.HoldingLemmas.{account_holdings}
use Rattle.svc_loan.proofs.ClosedLemmas.{cents_same}
use Rattle.svc_custody.specs.Cash.{is_settled_at}
use Rattle.svc_custody.proofs.CashLemmas.{smaller}
use Rattle.svc_custody.proofs.cash.pi_of.Given.{Over}
use Rattle.svc_custody.proofs.cash.pi_of.Goals as goal

pub collected-requires-clause-interest_high : goal.collected-requires-clause-interest_high
collected-requires-clause-interest_high g c =
    let h = account_holdings c.args.loan.now.held.account c.requires.limited in
    rw c.now.ensures.books (smaller _ h.interest.high)

pub collected-requires-clause-fee_high : goal.collected-requires-clause-fee_high
collected-requires-clause-fee_high g c =
    let h = account_holdings c.args.loan.now.held.account c.requires.limited in
    rw c.now.ensures.books (smaller _ h.fee.high)

pub collected-requires-clause-principal_high : goal.collected-requires-clause-principal_high
collected-requires-clause-principal_high g c =
    let h = account_holdings c.args.loan.now.held.account c.requires.limited in
    rw c.now.ensures.books (smaller _ h.principal.high)

-- what was collected and remitted, and whether the loan is settled, as they are passed on
passed : (g : Over) (c : goal.After-position g) (f : ℤ → ℤ → Bool → ℤ) → f (to_z w64 (of_z w64 c.collected.result)) (to_z w64 (of_z w64 c.remitted.result)) c.is_settled-settled.result ≡ f (collected (books_now c.args.loan.now.held)) c.args.loan.now.remitted (is_settled_at c.args.remitted c.args.loan.now)
passed g c f =
    let k = c.args.loan.now in
    let small = c.collected.ensures.small in
    let asked = c.requires.remitted in
    let took : to_z w64 (of_z w64 c.collected.result) ≡ collected (books_now k.held) =
    cents_same c.collected.result (let l = small.low in omega (arith, ints)) (let m = small.high in omega (arith, ints)) ∙ c.collected.ensures.value ∙ ap collected c.now.ensures.books in
    let sent : to_z w64 (of_z w64 c.remitted.result) ≡ k.remitted =
    cents_same c.remitted.result (let l = asked.low in let r = c.remitted.ensures in omega (arith, ints)) (let m = asked.high in let r = c.remitted.ensures in omega (arith, ints)) ∙ c.remitted.ensures in
    ap (λ z. f z (to_z w64 (of_z w64 c.remitted.result)) c.is_settled-settled.result) took
    ∙ ap (λ z. f (collected (books_now k.held)) z c.is_settled-settled.result) sent
    ∙ ap (f (collected (books_now k.held)) k.remitted) c.is_settled-settled.ensures

pub returns-clause-held : goal.returns-clause-held
returns-clause-held g c = c.position.ensures.held ∙ passed g c pi_held

pub returns-clause-advanced : goal.returns-clause-advanced
returns-clause-advanced g c = c.position.ensures.advanced ∙ passed g c pi_advanced

pub returns-clause-residual : goal.returns-clause-residual
returns-clause-residual g c = c.position.ensures.residual ∙ passed g c pi_residual
