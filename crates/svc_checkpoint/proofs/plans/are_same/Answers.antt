use Rattle.std.proofs.Common.{◌≡◌, ℕ, ℤ, refl}
use Rattle.std.specs.Bool.{Decides}
use Rattle.std.proofs.lemmas.Bool.Decides.{Decides-eqb, Decides-int_eq, Decides-at}
use Rattle.svc_base.proofs.EqualLemmas.{test_of, Decides-pair, Decides-fields}
use Rattle.svc_types.specs.contracts.escrow.EscrowPlanPartialEq.TheImpl.Laws.{laws-law}
use Rattle.svc_types.specs.declared.escrow.EscrowPlan.{EscrowPlan}
use Rattle.svc_checkpoint.proofs.plans.are_same.Goals as goal

plan_of : ℕ × (ℕ × (ℕ × (ℤ × (ℤ × (ℤ × ℤ))))) → EscrowPlan
plan_of (start, (short_months, (deficient_months, (base, (credit, (short, deficient)))))) = record {
  start = start;
  short_months = short_months;
  deficient_months = deficient_months;
  base = base;
  credit = credit;
  short = short;
  deficient = deficient;
}

decides_plan : (a b : EscrowPlan) → Decides (test_of laws-law a b) (a ≡ b)
unfolding plan_of
decides_plan a b =
    Decides-fields
    (λ (p : EscrowPlan). (p.start, (p.short_months, (p.deficient_months, (p.base, (p.credit, (p.short, p.deficient)))))))
    plan_of (λ p. refl) _ a b
    (Decides-pair _ _ (Decides-eqb a.start b.start) (Decides-pair _ _ (Decides-eqb a.short_months b.short_months)
    (Decides-pair _ _ (Decides-eqb a.deficient_months b.deficient_months)
    (Decides-pair _ _ (Decides-int_eq a.base b.base) (Decides-pair _ _ (Decides-int_eq a.credit b.credit)
    (Decides-pair _ _ (Decides-int_eq a.short b.short) (Decides-int_eq a.deficient b.deficient)))))))

pub returns : goal.returns
returns c = Decides-at _ _ c.eq.ensures (decides_plan c.args.one.now c.args.other.now)
