-- What a command that is not refused changes.
use Rattle.std.specs.Prelude.{◌≡◌, List, ⊤}
use Rattle.svc_world.specs.declared.scope.Scope.{Scope}
use Rattle.svc_world.specs.declared.scope.Scope.TheVariants as scope
use Rattle.svc_loan.specs.Kept.{KeptLoan}
use Rattle.svc_loan.specs.Loans.{IsThere}
use Rattle.svc_rules.specs.declared.target.Target.{Target}
use Rattle.svc_rules.specs.declared.target.Target.TheVariants.{One, New, Every}

-- the target of a command of a scope: the place of the loan that it names, the loan that it takes on, or all of them
abbrev pub IsTarget : Scope → List KeptLoan → Target → Type 0
IsTarget (scope.One id) loans (One place) = (place.id ≡ id) × IsThere place loans
IsTarget (scope.New id t) loans (New i s) = (i ≡ id) × (s ≡ t)
IsTarget scope.Every loans Every = ⊤
IsTarget s loans other = ⊥
