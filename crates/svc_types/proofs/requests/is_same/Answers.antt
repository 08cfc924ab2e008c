use Rattle.std.proofs.Common.{◌≡◌, ◌==◌, ◌∙◌, sym, ◌&&◌, refl, ap}
use Rattle.svc_base.proofs.EqualLemmas.{test_of}
use Rattle.svc_types.specs.contracts.requests.CommandPartialEq.TheImpl.Laws.{laws-law}
use Rattle.svc_types.specs.contracts.terms.TermsPartialEq.TheImpl.Laws.{laws-law as terms-law}
use Rattle.svc_types.specs.contracts.terms.RemitTypePartialEq.TheImpl.Laws.{laws-law as type-law}
use Rattle.svc_types.specs.contracts.account.DesignationPartialEq.TheImpl.Laws.{laws-law as designation-law}
use Rattle.svc_types.specs.contracts.escrow.LineKindPartialEq.TheImpl.Laws.{laws-law as kind-law}
use Rattle.svc_types.specs.contracts.escrow.SurplusPlanPartialEq.TheImpl.Laws.{laws-law as surplus-law}
use Rattle.svc_types.specs.contracts.escrow.PartPlanPartialEq.TheImpl.Laws.{laws-law as part-law}
use Rattle.svc_types.specs.contracts.escrow.PlanPartialEq.TheImpl.Laws.{laws-law as plan-law}
use Rattle.svc_types.specs.declared.requests.Command.{Command}
use Rattle.svc_types.specs.declared.requests.Command.TheVariants as command
use Rattle.svc_types.specs.declared.account.Designation.{Designation}
use Rattle.svc_types.specs.declared.account.Designation.TheVariants as over
use Rattle.svc_types.specs.declared.terms.RemitType.{RemitType}
use Rattle.svc_types.specs.declared.terms.RemitType.TheVariants.{AA, SA, SS}
use Rattle.svc_types.specs.declared.terms.Terms.{Terms}
use Rattle.svc_types.specs.declared.escrow.LineKind.{LineKind}
use Rattle.svc_types.specs.declared.escrow.LineKind.TheVariants.{Tax, Hazard, Flood, Other}
use Rattle.svc_types.specs.declared.escrow.SurplusPlan.{SurplusPlan}
use Rattle.svc_types.specs.declared.escrow.SurplusPlan.TheVariants as surplus
use Rattle.svc_types.specs.declared.escrow.PartPlan.{PartPlan}
use Rattle.svc_types.specs.declared.escrow.PartPlan.TheVariants as part
use Rattle.svc_types.specs.declared.escrow.Plan.{Plan}
use Rattle.svc_types.specs.Same.{is_same_designation, is_same_type, is_same_kind, is_same_surplus, is_same_part, is_same_plan, is_same_terms, is_same}
use Rattle.svc_types.proofs.SameLemmas.{decides_same}
use Rattle.svc_types.proofs.requests.is_same.Goals as goal

type_tested : (a b : RemitType) → test_of type-law a b ≡ is_same_type a b
type_tested AA AA = refl
type_tested SA SA = refl
type_tested SS SS = refl
type_tested a b = refl

kind_tested : (a b : LineKind) → test_of kind-law a b ≡ is_same_kind a b
kind_tested Tax Tax = refl
kind_tested Hazard Hazard = refl
kind_tested Flood Flood = refl
kind_tested Other Other = refl
kind_tested a b = refl

designation_tested : (a b : Designation) → test_of designation-law a b ≡ is_same_designation a b
designation_tested over.Regular over.Regular = refl
designation_tested over.Principal over.Principal = refl
designation_tested over.Escrow over.Escrow = refl
designation_tested a b = refl

surplus_tested : (a b : SurplusPlan) → test_of surplus-law a b ≡ is_same_surplus a b
surplus_tested surplus.Unsaid surplus.Unsaid = refl
surplus_tested surplus.Refund surplus.Refund = refl
surplus_tested surplus.Credit surplus.Credit = refl
surplus_tested surplus.Retain surplus.Retain = refl
surplus_tested a b = refl

part_tested : (a b : PartPlan) → test_of part-law a b ≡ is_same_part a b
part_tested part.Unsaid part.Unsaid = refl
part_tested part.Leave part.Leave = refl
part_tested part.Within30 part.Within30 = refl
part_tested (part.Spread m) (part.Spread n) = refl
part_tested a b = refl

plan_tested : (a b : Plan) → test_of plan-law a b ≡ is_same_plan a b
unfolding is_same_plan
plan_tested a b = rw (surplus_tested a.surplus b.surplus, part_tested a.short b.short, part_tested a.deficient b.deficient) refl

terms_tested : (a b : Terms) → test_of terms-law a b ≡ is_same_terms a b
unfolding is_same_terms
terms_tested a b = rw (type_tested a.kind b.kind) refl

tested : (a b : Command) → test_of laws-law a b ≡ is_same a b
unfolding is_same
tested (command.Day d) (command.Day e) = refl
tested (command.Board l t) (command.Board m u) = ap (λ v. (l == m) && v) (terms_tested t u)
tested (command.Pay l d x p) (command.Pay m e y q) = rw (designation_tested p q) refl
tested (command.Curtail l d x) (command.Curtail m e y) = refl
tested (command.Payoff l d x) (command.Payoff m e y) = refl
tested (command.Deposit l d x) (command.Deposit m e y) = refl
tested (command.Disburse l d x n) (command.Disburse m e y k) = refl
tested (command.Refund l x) (command.Refund m y) = refl
tested (command.Waive l x) (command.Waive m y) = refl
tested (command.Reverse l n) (command.Reverse m k) = refl
tested (command.Line l n k o v x) (command.Line m n' k' o' v' y) = rw (kind_tested k k') refl
tested (command.Drop l n) (command.Drop m k) = refl
tested (command.Analyse l p) (command.Analyse m q) = ap (λ v. (l == m) && v) (plan_tested p q)
tested (command.Close p) (command.Close q) = refl
tested (command.Remit p) (command.Remit q) = refl
tested (command.Retype l p k) (command.Retype m q k') = rw (type_tested k k') refl
tested a b = refl

pub returns-clause-value : goal.returns-clause-value
returns-clause-value c = c.eq.ensures ∙ tested c.args.a.now c.args.b.now

pub returns-clause-same : goal.returns-clause-same
returns-clause-same c =
    let a = c.args.a.now in
    let b = c.args.b.now in
    let e = tested a b in
    let d = decides_same a b in
    (λ h. d.0 (sym (c.eq.ensures ∙ e) ∙ h), λ p. c.eq.ensures ∙ e ∙ d.1 p)
