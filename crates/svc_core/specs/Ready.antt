-- The room that a command needs, so that it takes no memory when it is accepted.
use Rattle.std.specs.Prelude.{◌≡◌, ℕ, ◌*◌, ◌≤◌, pos, length}
use Rattle.std.specs.List.{All}
use Rattle.svc_types.specs.declared.terms.Terms.{Terms}
use Rattle.period_adjust.specs.Sealed.{State}
use Rattle.svc_world.specs.Held.{boarded}
use Rattle.svc_loan.specs.Kept.{KeptLoan, IsReady, HasMonth}
use Rattle.svc_loan.specs.Loans.{KeptLoans, OfLoan, IsThere}
use Rattle.svc_world.specs.declared.scope.Scope.{Scope}
use Rattle.svc_world.specs.declared.scope.Scope.TheVariants as scope
use Rattle.svc_core.specs.declared.ready.Ready.{Ready}
use Rattle.svc_core.specs.declared.ready.Ready.TheVariants.{One, New, Every}

-- for a command on one loan: room in the loan, for its rows, for the dues that it had for closed months and those that
-- it has then, and for an adjustment of each of these
pub record HasRoomForOne (id today : ℕ) (loans : KeptLoans) (seals : State) (rows dues : ℕ) : Type 0 where
  pub loan : OfLoan id loans.loans (IsReady today)
  pub rows_room : 11 ≤ rows
  pub dues_room : 2 * length seals.reporting.reports ≤ dues
  pub adjustments : length seals.reporting.reports ≤ seals.adjustment_room

-- for a loan that is taken on: a place among the others and for what custody holds for it, and room for its rows
pub record HasRoomForNew (loans : KeptLoans) (rows places : ℕ) : Type 0 where
  pub place : 1 ≤ loans.room
  pub rows_room : 11 ≤ rows
  pub places_room : 1 ≤ places

-- the loan that is to be taken on is the one that the command names
pub record IsBoarding (id : ℕ) (t : Terms) (today : ℕ) (k : KeptLoan) : Type 0 where
  pub held : k.held ≡ boarded id t today
  pub closed : k.closed ≡ 0
  pub remitted : k.remitted ≡ pos 0

-- for a command on all loans, after which the business day is that one: room in each, for the rows of each, and
-- for a report with a line of each
pub record HasRoomForAll (today : ℕ) (loans : KeptLoans) (seals : State) (rows lines : ℕ) : Type 0 where
  pub each : All (HasMonth today) loans.loans
  pub rows_room : 11 * length loans.loans ≤ rows
  pub lines_room : length loans.loans ≤ lines
  pub report_lines : length loans.loans ≤ seals.line_room
  pub report : 1 ≤ seals.report_room

-- what is ready for a command of a scope, where the business day is today before it and later after it: it changes what
-- the command names, and there is room for rows, for the dues of a loan, for the positions of more loans, and for the
-- lines of a report
abbrev pub IsReadyFor : {B : Type 0} → Scope → ℕ → ℕ → KeptLoans → State → ℕ → ℕ → ℕ → ℕ → Ready B → Type 0
IsReadyFor (scope.One id) today later loans seals rows dues places lines (One place) =
    (place.id ≡ id) × IsThere place loans.loans × HasRoomForOne place.id today loans seals rows dues
IsReadyFor (scope.New id t) today later loans seals rows dues places lines (New i s loan) =
    (i ≡ id) × (s ≡ t) × HasRoomForNew loans rows places × IsBoarding i s today loan.value
IsReadyFor scope.Every today later loans seals rows dues places lines Every =
    HasRoomForAll later loans seals rows lines
IsReadyFor s today later loans seals rows dues places lines other = ⊥
