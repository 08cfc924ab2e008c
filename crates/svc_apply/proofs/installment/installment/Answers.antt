use Rattle.std.proofs.Common.{◌≡◌, FitsSigned, w64, arith}
use Rattle.std.proofs.lemmas.Int.{ints, to_z-of_z}
use Rattle.svc_base.specs.Money.{month_interest}
use Rattle.svc_base.proofs.MoneyLemmas.{month_interest_rises}
use Rattle.svc_spec.specs.Installments.{principal_part, escrow_part, due_month}
use Rattle.svc_spec.proofs.InstallmentLemmas.{IsBalance, principal_part_bounds, escrow_part_bounds}
use Rattle.svc_apply.proofs.installment.installment.Goals as goal

pub returns-clause-parts : goal.returns-clause-parts
returns-clause-parts c =
    let b = c.args.books.now in
    let t = c.args.terms.now in
    let low = c.requires.signs.upb_low in
    let high = c.requires.signs.upb_high in
    let fits : FitsSigned w64 b.upb = omega (arith, ints) in
    let interest : c.month_interest.result ≡ month_interest b.upb t.rate = simp to_z-of_z at c.month_interest.ensures.value in
    let fee : c.month_interest-2.result ≡ month_interest b.upb t.fee = simp to_z-of_z at c.month_interest-2.ensures.value in
    let principal : c.principal_part.result ≡ principal_part t b.upb b.next = simp to_z-of_z at c.principal_part.ensures in
    let month : c.due_month-month.result ≡ due_month t b.next = c.due_month-month.ensures in
    let escrow : c.escrow_part.result ≡ escrow_part b.plan b.earlier (due_month t b.next) = cc in
    let balance : IsBalance t b.upb = record { low = low; high = high } in
    let principals = principal_part_bounds t b.upb b.next c.requires.terms balance in
    let escrows = escrow_part_bounds b.plan b.earlier (due_month t b.next) c.requires.signs.plan c.requires.signs.earlier in
    let less = month_interest_rises b.upb b.upb t.fee t.rate low (omega (arith, ints)) c.requires.terms.fee in
    let sound = c.requires.terms.principal_high in
    record {
      balance = omega (arith, ints);
      interest = omega (arith, ints);
      interest_high = omega (arith, ints);
      fee = omega (arith, ints);
      fee_high = omega (arith, ints);
      principal = omega (arith, ints);
      principal_high = omega (arith, ints);
      escrow = omega (arith, ints);
      escrow_high = omega (arith, ints);
    }
