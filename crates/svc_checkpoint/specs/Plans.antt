-- The plans of a loan's books: that of boarding, or one that an analysis in its account settled.
use Rattle.std.specs.Prelude.{◌≡◌, ℕ, ◌==◌, ◌⊎◌, Option, None, Some, is_some, true, List}
use Rattle.std.specs.List.{Contains, find}
use Rattle.std.specs.Option.{unwrap_or}
use Rattle.svc_types.specs.declared.terms.Terms.{Terms}
use Rattle.svc_types.specs.declared.escrow.EscrowPlan.{EscrowPlan}
use Rattle.svc_types.specs.declared.account.Entry.{Entry}
use Rattle.svc_types.specs.declared.account.Act.{Act}
use Rattle.svc_types.specs.declared.account.Act.TheVariants.{Pay, Curtail, Payoff, Deposit}
use Rattle.svc_types.specs.declared.account.Act.TheVariants.{Disburse, Refund, Waive, Analyse}
use Rattle.svc_spec.specs.Books.{boarding_plan}
use Rattle.svc_spec.specs.Accounts.{Account}
use Rattle.svc_checkpoint.specs.declared.plans.Plans.{Plans}

-- the plan that an act settles
abbrev pub plan_of : Act → Option EscrowPlan
plan_of (Pay c to) = None
plan_of (Curtail c) = None
plan_of (Payoff c) = None
plan_of (Deposit c) = None
plan_of (Disburse c line) = None
plan_of (Refund c) = None
plan_of (Waive c) = None
plan_of (Analyse s) = Some s.plan

-- a plan that one of some entries settled
abbrev pub IsSettledIn : List Entry → EscrowPlan → Type 0
IsSettledIn entries p = (e : Entry) × (Contains entries e) × (plan_of e.act ≡ Some p)

-- a plan that the entry with a number among them settled
abbrev pub IsSettledBy : List Entry → ℕ → EscrowPlan → Type 0
IsSettledBy entries n p = (e : Entry) × (Contains entries e) × (e.number ≡ n) × (plan_of e.act ≡ Some p)

-- a plan that the books of a loan with these entries may have
abbrev pub IsPlanOf : Terms → List Entry → EscrowPlan → Type 0
IsPlanOf t entries p = (p ≡ boarding_plan t) ⊎ IsSettledIn entries p

-- the plan that an entry settled, where there is one and it is an analysis
abbrev pub plan_by : Option Entry → Option EscrowPlan
plan_by None = None
plan_by (Some e) = plan_of e.act

-- the plan that the entry with a number settled
abbrev pub settled_with : List Entry → Option ℕ → Option EscrowPlan
settled_with entries None = None
settled_with entries (Some n) = plan_by (find (λ e. e.number == n) entries)

-- that plan; where there is none that of boarding
abbrev pub plan_with : Account → Option ℕ → EscrowPlan
plan_with a number = unwrap_or (settled_with a.entries number) (boarding_plan a.terms)

-- the number of an entry, or none
abbrev pub IsNumber : List Entry → Option ℕ → Type 0
IsNumber entries None = Unit {0}
IsNumber entries (Some n) = is_some (find (λ e. e.number == n) entries) ≡ true

-- a number that stands for a plan
pub record Names (a : Account) (number : Option ℕ) (p : EscrowPlan) : Type 0 where
  pub entry : IsNumber a.entries number
  pub plan : plan_with a number ≡ p

-- plans with numbers that stand for them
pub record AreNamed (a : Account) (plans : Plans) : Type 0 where
  pub newest : Names a plans.newest.number plans.newest.plan
  pub earlier : Names a plans.earlier.number plans.earlier.plan
