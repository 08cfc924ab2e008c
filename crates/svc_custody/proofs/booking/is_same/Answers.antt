use Rattle.std.proofs.Common.{◌≡◌, ℤ, refl}
use Rattle.std.specs.Bool.{Decides}
use Rattle.std.proofs.lemmas.Bool.Decides.{Decides-int_eq, Decides-at}
use Rattle.svc_base.proofs.EqualLemmas.{test_of, Decides-pair, Decides-fields}
use Rattle.custodial_book.specs.declared.row.Totals.{Totals}
use Rattle.custodial_book.proofs.SameLemmas.{decides_totals}
use Rattle.svc_custody.specs.contracts.position.PositionPartialEq.TheImpl.Laws.{laws-law}
use Rattle.svc_custody.specs.declared.position.Position.{Position}
use Rattle.svc_custody.proofs.booking.is_same.Goals as goal

position_with : Totals × (ℤ × (ℤ × ℤ)) → Position
position_with (totals, (suspense, (escrow, held))) = record { totals = totals; suspense = suspense; escrow = escrow; held = held }

decides_position : (a b : Position) → Decides (test_of laws-law a b) (a ≡ b)
unfolding position_with
decides_position a b =
    Decides-fields (λ (p : Position). (p.totals, (p.suspense, (p.escrow, p.held)))) position_with (λ p. refl) _ a b
    (Decides-pair _ _ (decides_totals a.totals b.totals) (Decides-pair _ _ (Decides-int_eq a.suspense b.suspense)
    (Decides-pair _ _ (Decides-int_eq a.escrow b.escrow) (Decides-int_eq a.held b.held))))

pub returns : goal.returns
returns c = Decides-at _ _ c.eq.ensures (decides_position c.args.before.now c.args.later.now)
