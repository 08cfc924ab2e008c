-- Totals for which a derived `==` holds are equal.
use Rattle.std.proofs.Common.{◌≡◌, ℤ, refl}
use Rattle.std.specs.Bool.{Decides}
use Rattle.std.proofs.lemmas.Bool.Decides.{Decides-int_eq}
use Rattle.svc_base.proofs.EqualLemmas.{test_of, Decides-pair, Decides-fields}
use Rattle.custodial_book.specs.contracts.row.TotalsPartialEq.TheImpl.Laws.{laws-law}
use Rattle.custodial_book.specs.declared.row.Totals.{Totals}

totals_of : ℤ × (ℤ × (ℤ × (ℤ × (ℤ × (ℤ × (ℤ × (ℤ × (ℤ × (ℤ × ℤ))))))))) → Totals
totals_of (received, (returned, (refunded, (disbursed, (collected, (fee, (late, (pi_advance, (escrow_advance, (remitted, residual)))))))))) = record {
  received = received;
  returned = returned;
  refunded = refunded;
  disbursed = disbursed;
  collected = collected;
  fee = fee;
  late = late;
  pi_advance = pi_advance;
  escrow_advance = escrow_advance;
  remitted = remitted;
  residual = residual;
}

pub decides_totals : (a b : Totals) → Decides (test_of laws-law a b) (a ≡ b)
unfolding totals_of
decides_totals a b =
    Decides-fields
    (λ (t : Totals). (t.received, (t.returned, (t.refunded, (t.disbursed, (t.collected, (t.fee, (t.late, (t.pi_advance, (t.escrow_advance, (t.remitted, t.residual)))))))))))
    totals_of (λ t. refl) _ a b
    (Decides-pair _ _ (Decides-int_eq a.received b.received) (Decides-pair _ _ (Decides-int_eq a.returned b.returned)
    (Decides-pair _ _ (Decides-int_eq a.refunded b.refunded) (Decides-pair _ _ (Decides-int_eq a.disbursed b.disbursed)
    (Decides-pair _ _ (Decides-int_eq a.collected b.collected) (Decides-pair _ _ (Decides-int_eq a.fee b.fee)
    (Decides-pair _ _ (Decides-int_eq a.late b.late) (Decides-pair _ _ (Decides-int_eq a.pi_advance b.pi_advance)
    (Decides-pair _ _ (Decides-int_eq a.escrow_advance b.escrow_advance)
    (Decides-pair _ _ (Decides-int_eq a.remitted b.remitted) (Decides-int_eq a.residual b.residual)))))))))))
