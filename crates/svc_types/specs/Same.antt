-- Whether two commands are the same in each field.
use Rattle.std.specs.Prelude.{Bool, true, false, ◌&&◌, ◌==◌}
use Rattle.std.specs.Ordering.{int_eq}
use Rattle.svc_types.specs.declared.account.Designation.{Designation}
use Rattle.svc_types.specs.declared.account.Designation.TheVariants as over
use Rattle.svc_types.specs.declared.terms.RemitType.{RemitType}
use Rattle.svc_types.specs.declared.terms.RemitType.TheVariants.{AA, SA, SS}
use Rattle.svc_types.specs.declared.terms.Terms.{Terms}
use Rattle.svc_types.specs.declared.escrow.LineKind.{LineKind}
use Rattle.svc_types.specs.declared.escrow.LineKind.TheVariants.{Tax, Hazard, Flood, Other}
use Rattle.svc_types.specs.declared.escrow.SurplusPlan.{SurplusPlan}
use Rattle.svc_types.specs.declared.escrow.SurplusPlan.TheVariants as surplus
use Rattle.svc_types.specs.declared.escrow.PartPlan.{PartPlan}
use Rattle.svc_types.specs.declared.escrow.PartPlan.TheVariants as part
use Rattle.svc_types.specs.declared.escrow.Plan.{Plan}
use Rattle.svc_types.specs.declared.requests.Command.{Command}
use Rattle.svc_types.specs.declared.requests.Command.TheVariants as command

abbrev pub is_same_designation : Designation → Designation → Bool
is_same_designation over.Regular over.Regular = true
is_same_designation over.Principal over.Principal = true
is_same_designation over.Escrow over.Escrow = true
is_same_designation a b = false

abbrev pub is_same_type : RemitType → RemitType → Bool
is_same_type AA AA = true
is_same_type SA SA = true
is_same_type SS SS = true
is_same_type a b = false

abbrev pub is_same_kind : LineKind → LineKind → Bool
is_same_kind Tax Tax = true
is_same_kind Hazard Hazard = true
is_same_kind Flood Flood = true
is_same_kind Other Other = true
is_same_kind a b = false

abbrev pub is_same_surplus : SurplusPlan → SurplusPlan → Bool
is_same_surplus surplus.Unsaid surplus.Unsaid = true
is_same_surplus surplus.Refund surplus.Refund = true
is_same_surplus surplus.Credit surplus.Credit = true
is_same_surplus surplus.Retain surplus.Retain = true
is_same_surplus a b = false

abbrev pub is_same_part : PartPlan → PartPlan → Bool
is_same_part part.Unsaid part.Unsaid = true
is_same_part part.Leave part.Leave = true
is_same_part part.Within30 part.Within30 = true
is_same_part (part.Spread m) (part.Spread n) = m == n
is_same_part a b = false

unfoldable pub is_same_plan : Plan → Plan → Bool
is_same_plan a b =
    is_same_surplus a.surplus b.surplus && (is_same_part a.short b.short && is_same_part a.deficient b.deficient)

unfoldable pub is_same_terms : Terms → Terms → Bool
is_same_terms a b =
    (a.boarded == b.boarded) && (int_eq a.principal b.principal && ((a.rate == b.rate) && ((a.fee == b.fee)
    && (int_eq a.pi b.pi && ((a.term == b.term) && ((a.first == b.first) && ((a.grace == b.grace)
    && ((a.late == b.late) && ((a.cushion == b.cushion)
    && (int_eq a.escrow b.escrow && is_same_type a.kind b.kind))))))))))

unfoldable pub is_same : Command → Command → Bool
is_same (command.Day d) (command.Day e) = d == e
is_same (command.Board l t) (command.Board m u) = (l == m) && is_same_terms t u
is_same (command.Pay l d x p) (command.Pay m e y q) =
    (l == m) && ((d == e) && (int_eq x y && is_same_designation p q))
is_same (command.Curtail l d x) (command.Curtail m e y) = (l == m) && ((d == e) && int_eq x y)
is_same (command.Payoff l d x) (command.Payoff m e y) = (l == m) && ((d == e) && int_eq x y)
is_same (command.Deposit l d x) (command.Deposit m e y) = (l == m) && ((d == e) && int_eq x y)
is_same (command.Disburse l d x n) (command.Disburse m e y k) =
    (l == m) && ((d == e) && (int_eq x y && (n == k)))
is_same (command.Refund l x) (command.Refund m y) = (l == m) && int_eq x y
is_same (command.Waive l x) (command.Waive m y) = (l == m) && int_eq x y
is_same (command.Reverse l n) (command.Reverse m k) = (l == m) && (n == k)
is_same (command.Line l n k o v x) (command.Line m n' k' o' v' y) =
    (l == m) && ((n == n') && (is_same_kind k k' && ((o == o') && ((v == v') && int_eq x y))))
is_same (command.Drop l n) (command.Drop m k) = (l == m) && (n == k)
is_same (command.Analyse l p) (command.Analyse m q) = (l == m) && is_same_plan p q
is_same (command.Close p) (command.Close q) = p == q
is_same (command.Remit p) (command.Remit q) = p == q
is_same (command.Retype l p k) (command.Retype m q k') = (l == m) && ((p == q) && is_same_type k k')
is_same a b = false
