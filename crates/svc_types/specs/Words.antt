-- The spelling of the words that requests choose from: each has one text.
use Rattle.std.specs.Prelude.{ℕ, ◌<◌, ◌^◌, List, [], ◌++◌, codes}
use Rattle.svc_base.specs.Text.{text_of_number}
use Rattle.svc_types.specs.declared.account.Designation.{Designation}
use Rattle.svc_types.specs.declared.account.Designation.TheVariants as over
use Rattle.svc_types.specs.declared.terms.RemitType.{RemitType}
use Rattle.svc_types.specs.declared.terms.RemitType.TheVariants.{AA, SA, SS}
use Rattle.svc_types.specs.declared.escrow.LineKind.{LineKind}
use Rattle.svc_types.specs.declared.escrow.LineKind.TheVariants.{Tax, Hazard, Flood, Other}
use Rattle.svc_types.specs.declared.escrow.SurplusPlan.{SurplusPlan}
use Rattle.svc_types.specs.declared.escrow.SurplusPlan.TheVariants as surplus
use Rattle.svc_types.specs.declared.escrow.PartPlan.{PartPlan}
use Rattle.svc_types.specs.declared.escrow.PartPlan.TheVariants as part

-- a remittance type
abbrev pub text_of_type : RemitType → List ℕ
text_of_type AA = codes "AA"
text_of_type SA = codes "SA"
text_of_type SS = codes "SS"

-- the kind of a bill that is paid from escrow
abbrev pub text_of_kind : LineKind → List ℕ
text_of_kind Tax = codes "tax"
text_of_kind Hazard = codes "hazard"
text_of_kind Flood = codes "flood"
text_of_kind Other = codes "other"

-- where what a payment leaves goes; a regular payment names nothing
abbrev pub text_of_designation : Designation → List ℕ
text_of_designation over.Regular = []
text_of_designation over.Principal = codes "principal"
text_of_designation over.Escrow = codes "escrow"

-- a designation that a payment names
abbrev pub IsNamed : Designation → Type 0
IsNamed over.Regular = ⊥
IsNamed over.Principal = Unit {0}
IsNamed over.Escrow = Unit {0}

-- what is done with a surplus
abbrev pub text_of_surplus : SurplusPlan → List ℕ
text_of_surplus surplus.Unsaid = codes "-"
text_of_surplus surplus.Refund = codes "refund"
text_of_surplus surplus.Credit = codes "credit"
text_of_surplus surplus.Retain = codes "retain"

-- what is done with a shortage or a deficiency
abbrev pub text_of_part : PartPlan → List ℕ
text_of_part part.Unsaid = codes "-"
text_of_part part.Leave = codes "leave"
text_of_part part.Within30 = codes "within30"
text_of_part (part.Spread n) = codes "spread:" ++ text_of_number n

-- a choice that requests may name: its months are a number
abbrev pub IsReadPart : PartPlan → Type 0
IsReadPart part.Unsaid = Unit {0}
IsReadPart part.Leave = Unit {0}
IsReadPart part.Within30 = Unit {0}
IsReadPart (part.Spread n) = n < 2 ^ 32
