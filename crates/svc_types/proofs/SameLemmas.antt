-- Two commands are the same in each field exactly where they are equal.
use Rattle.std.proofs.Common.{◌≡◌, ℕ, ℤ, refl, ap}
use Rattle.std.specs.Prelude.{◌==◌}
use Rattle.std.specs.Bool.{Decides}
use Rattle.std.proofs.lemmas.Bool.Decides.{Decides-eqb, Decides-int_eq, Decides-and, Decides-like}
use Rattle.svc_base.proofs.EqualLemmas.{Decides-pair, Decides-fields}
use Rattle.svc_types.specs.declared.account.Designation.{Designation}
use Rattle.svc_types.specs.declared.account.Designation.TheVariants as over
use Rattle.svc_types.specs.declared.terms.RemitType.{RemitType}
use Rattle.svc_types.specs.declared.terms.RemitType.TheVariants.{AA, SA, SS}
use Rattle.svc_types.specs.declared.terms.Terms.{Terms}
use Rattle.svc_types.specs.declared.escrow.LineKind.{LineKind}
use Rattle.svc_types.specs.declared.escrow.LineKind.TheVariants.{Tax, Hazard, Flood, Other}
use Rattle.svc_types.specs.declared.escrow.SurplusPlan.{SurplusPlan}
use Rattle.svc_types.specs.declared.escrow.SurplusPlan.TheVariants as surplus
use Rattle.svc_types.specs.declared.escrow.PartPlan.{PartPlan}
use Rattle.svc_types.specs.declared.escrow.PartPlan.TheVariants as part
use Rattle.svc_types.specs.declared.escrow.Plan.{Plan}
use Rattle.svc_types.specs.declared.requests.Command.{Command}
use Rattle.svc_types.specs.declared.requests.Command.TheVariants as command
use Rattle.svc_types.specs.Same.{is_same_designation, is_same_type, is_same_kind, is_same_surplus, is_same_part, is_same_plan, is_same_terms, is_same}

decides_designation : (a b : Designation) → Decides (is_same_designation a b) (a ≡ b)
decides_designation over.Regular over.Regular = (λ h. refl, λ h. refl)
decides_designation over.Principal over.Principal = (λ h. refl, λ h. refl)
decides_designation over.Escrow over.Escrow = (λ h. refl, λ h. refl)
decides_designation a b = (λ h. cc, λ h. cc)

decides_type : (a b : RemitType) → Decides (is_same_type a b) (a ≡ b)
decides_type AA AA = (λ h. refl, λ h. refl)
decides_type SA SA = (λ h. refl, λ h. refl)
decides_type SS SS = (λ h. refl, λ h. refl)
decides_type a b = (λ h. cc, λ h. cc)

decides_kind : (a b : LineKind) → Decides (is_same_kind a b) (a ≡ b)
decides_kind Tax Tax = (λ h. refl, λ h. refl)
decides_kind Hazard Hazard = (λ h. refl, λ h. refl)
decides_kind Flood Flood = (λ h. refl, λ h. refl)
decides_kind Other Other = (λ h. refl, λ h. refl)
decides_kind a b = (λ h. cc, λ h. cc)

decides_surplus : (a b : SurplusPlan) → Decides (is_same_surplus a b) (a ≡ b)
decides_surplus surplus.Unsaid surplus.Unsaid = (λ h. refl, λ h. refl)
decides_surplus surplus.Refund surplus.Refund = (λ h. refl, λ h. refl)
decides_surplus surplus.Credit surplus.Credit = (λ h. refl, λ h. refl)
decides_surplus surplus.Retain surplus.Retain = (λ h. refl, λ h. refl)
decides_surplus a b = (λ h. cc, λ h. cc)

decides_part : (a b : PartPlan) → Decides (is_same_part a b) (a ≡ b)
decides_part part.Unsaid part.Unsaid = (λ h. refl, λ h. refl)
decides_part part.Leave part.Leave = (λ h. refl, λ h. refl)
decides_part part.Within30 part.Within30 = (λ h. refl, λ h. refl)
decides_part (part.Spread m) (part.Spread n) = Decides-like (m == n) (λ h. ap part.Spread h) (λ h. cc) (Decides-eqb m n)
decides_part a b = (λ h. cc, λ h. cc)

plan_of : SurplusPlan × (PartPlan × PartPlan) → Plan
plan_of (surplus, (short, deficient)) = record { surplus = surplus; short = short; deficient = deficient }

decides_plan : (a b : Plan) → Decides (is_same_plan a b) (a ≡ b)
unfolding is_same_plan plan_of
decides_plan a b =
    Decides-fields (λ (p : Plan). (p.surplus, (p.short, p.deficient))) plan_of (λ p. refl) _ a b
    (Decides-pair _ _ (decides_surplus a.surplus b.surplus)
    (Decides-pair _ _ (decides_part a.short b.short) (decides_part a.deficient b.deficient)))

terms_of : ℕ × (ℤ × (ℕ × (ℕ × (ℤ × (ℕ × (ℕ × (ℕ × (ℕ × (ℕ × (ℤ × RemitType)))))))))) → Terms
terms_of (boarded, (principal, (rate, (fee, (pi, (term, (first, (grace, (late, (cushion, (escrow, kind))))))))))) = record {
  boarded = boarded;
  principal = principal;
  rate = rate;
  fee = fee;
  pi = pi;
  term = term;
  first = first;
  grace = grace;
  late = late;
  cushion = cushion;
  escrow = escrow;
  kind = kind;
}

decides_terms : (a b : Terms) → Decides (is_same_terms a b) (a ≡ b)
unfolding is_same_terms terms_of
decides_terms a b =
    Decides-fields
    (λ (t : Terms). (t.boarded, (t.principal, (t.rate, (t.fee, (t.pi, (t.term, (t.first, (t.grace, (t.late, (t.cushion, (t.escrow, t.kind))))))))))))
    terms_of (λ t. refl) _ a b
    (Decides-pair _ _ (Decides-eqb a.boarded b.boarded) (Decides-pair _ _ (Decides-int_eq a.principal b.principal)
    (Decides-pair _ _ (Decides-eqb a.rate b.rate) (Decides-pair _ _ (Decides-eqb a.fee b.fee)
    (Decides-pair _ _ (Decides-int_eq a.pi b.pi) (Decides-pair _ _ (Decides-eqb a.term b.term)
    (Decides-pair _ _ (Decides-eqb a.first b.first) (Decides-pair _ _ (Decides-eqb a.grace b.grace)
    (Decides-pair _ _ (Decides-eqb a.late b.late) (Decides-pair _ _ (Decides-eqb a.cushion b.cushion)
    (Decides-pair _ _ (Decides-int_eq a.escrow b.escrow) (decides_type a.kind b.kind))))))))))))

pub decides_same : (a b : Command) → Decides (is_same a b) (a ≡ b)
unfolding is_same
decides_same (command.Day d) (command.Day e) = Decides-like (d == e) (λ h. ap command.Day h) (λ h. cc) (Decides-eqb d e)
decides_same (command.Board l t) (command.Board m u) = Decides-like _ (λ h. let p = h.0 in let q = h.1 in cc) (λ h. let p : l ≡ m = cc in let q : t ≡ u = cc in (p, q)) (Decides-and _ _ (Decides-eqb l m) (decides_terms t u))
decides_same (command.Pay l d x p) (command.Pay m e y q) = Decides-like _ (λ h. let p1 = h.0 in let p2 = h.1.0 in let p3 = h.1.1.0 in let p4 = h.1.1.1 in cc) (λ h. let p1 : l ≡ m = cc in let p2 : d ≡ e = cc in let p3 : x ≡ y = cc in let p4 : p ≡ q = cc in (p1, (p2, (p3, p4)))) (Decides-and _ _ (Decides-eqb l m) (Decides-and _ _ (Decides-eqb d e) (Decides-and _ _ (Decides-int_eq x y) (decides_designation p q))))
decides_same (command.Curtail l d x) (command.Curtail m e y) = Decides-like _ (λ h. let p1 = h.0 in let p2 = h.1.0 in let p3 = h.1.1 in cc) (λ h. let p1 : l ≡ m = cc in let p2 : d ≡ e = cc in let p3 : x ≡ y = cc in (p1, (p2, p3))) (Decides-and _ _ (Decides-eqb l m) (Decides-and _ _ (Decides-eqb d e) (Decides-int_eq x y)))
decides_same (command.Payoff l d x) (command.Payoff m e y) = Decides-like _ (λ h. let p1 = h.0 in let p2 = h.1.0 in let p3 = h.1.1 in cc) (λ h. let p1 : l ≡ m = cc in let p2 : d ≡ e = cc in let p3 : x ≡ y = cc in (p1, (p2, p3))) (Decides-and _ _ (Decides-eqb l m) (Decides-and _ _ (Decides-eqb d e) (Decides-int_eq x y)))
decides_same (command.Deposit l d x) (command.Deposit m e y) = Decides-like _ (λ h. let p1 = h.0 in let p2 = h.1.0 in let p3 = h.1.1 in cc) (λ h. let p1 : l ≡ m = cc in let p2 : d ≡ e = cc in let p3 : x ≡ y = cc in (p1, (p2, p3))) (Decides-and _ _ (Decides-eqb l m) (Decides-and _ _ (Decides-eqb d e) (Decides-int_eq x y)))
decides_same (command.Disburse l d x n) (command.Disburse m e y k) = Decides-like _ (λ h. let p1 = h.0 in let p2 = h.1.0 in let p3 = h.1.1.0 in let p4 = h.1.1.1 in cc) (λ h. let p1 : l ≡ m = cc in let p2 : d ≡ e = cc in let p3 : x ≡ y = cc in let p4 : n ≡ k = cc in (p1, (p2, (p3, p4)))) (Decides-and _ _ (Decides-eqb l m) (Decides-and _ _ (Decides-eqb d e) (Decides-and _ _ (Decides-int_eq x y) (Decides-eqb n k))))
decides_same (command.Refund l x) (command.Refund m y) = Decides-like _ (λ h. let p1 = h.0 in let p2 = h.1 in cc) (λ h. let p1 : l ≡ m = cc in let p2 : x ≡ y = cc in (p1, p2)) (Decides-and _ _ (Decides-eqb l m) (Decides-int_eq x y))
decides_same (command.Waive l x) (command.Waive m y) = Decides-like _ (λ h. let p1 = h.0 in let p2 = h.1 in cc) (λ h. let p1 : l ≡ m = cc in let p2 : x ≡ y = cc in (p1, p2)) (Decides-and _ _ (Decides-eqb l m) (Decides-int_eq x y))
decides_same (command.Reverse l n) (command.Reverse m k) = Decides-like _ (λ h. let p1 = h.0 in let p2 = h.1 in cc) (λ h. let p1 : l ≡ m = cc in let p2 : n ≡ k = cc in (p1, p2)) (Decides-and _ _ (Decides-eqb l m) (Decides-eqb n k))
decides_same (command.Line l n k o v x) (command.Line m n' k' o' v' y) = Decides-like _ (λ h. let p1 = h.0 in let p2 = h.1.0 in let p3 = h.1.1.0 in let p4 = h.1.1.1.0 in let p5 = h.1.1.1.1.0 in let p6 = h.1.1.1.1.1 in cc) (λ h. let p1 : l ≡ m = cc in let p2 : n ≡ n' = cc in let p3 : k ≡ k' = cc in let p4 : o ≡ o' = cc in let p5 : v ≡ v' = cc in let p6 : x ≡ y = cc in (p1, (p2, (p3, (p4, (p5, p6)))))) (Decides-and _ _ (Decides-eqb l m) (Decides-and _ _ (Decides-eqb n n') (Decides-and _ _ (decides_kind k k') (Decides-and _ _ (Decides-eqb o o') (Decides-and _ _ (Decides-eqb v v') (Decides-int_eq x y))))))
decides_same (command.Drop l n) (command.Drop m k) = Decides-like _ (λ h. let p1 = h.0 in let p2 = h.1 in cc) (λ h. let p1 : l ≡ m = cc in let p2 : n ≡ k = cc in (p1, p2)) (Decides-and _ _ (Decides-eqb l m) (Decides-eqb n k))
decides_same (command.Analyse l p) (command.Analyse m q) = Decides-like _ (λ h. let p1 = h.0 in let p2 = h.1 in cc) (λ h. let p1 : l ≡ m = cc in let p2 : p ≡ q = cc in (p1, p2)) (Decides-and _ _ (Decides-eqb l m) (decides_plan p q))
decides_same (command.Close p) (command.Close q) = Decides-like (p == q) (λ h. ap command.Close h) (λ h. cc) (Decides-eqb p q)
decides_same (command.Remit p) (command.Remit q) = Decides-like (p == q) (λ h. ap command.Remit h) (λ h. cc) (Decides-eqb p q)
decides_same (command.Retype l p k) (command.Retype m q k') = Decides-like _ (λ h. let p1 = h.0 in let p2 = h.1.0 in let p3 = h.1.1 in cc) (λ h. let p1 : l ≡ m = cc in let p2 : p ≡ q = cc in let p3 : k ≡ k' = cc in (p1, (p2, p3))) (Decides-and _ _ (Decides-eqb l m) (Decides-and _ _ (Decides-eqb p q) (decides_type k k')))
decides_same a b = (λ h. cc, λ h. cc)
