-- What a command changes: one loan, a loan that it takes on, or all of them.
use Rattle.std.specs.Prelude.{◌≡◌, ℕ}
use Rattle.svc_base.specs.Calendar.{month_of}
use Rattle.svc_types.specs.declared.requests.Command.{Command}
use Rattle.svc_types.specs.declared.requests.Command.TheVariants as command
use Rattle.svc_world.specs.declared.scope.Scope.{Scope}
use Rattle.svc_world.specs.declared.scope.Scope.TheVariants.{One, New, Every}

abbrev pub scope_of : Command → Scope
scope_of (command.Day d) = Every
scope_of (command.Board id t) = New id t
scope_of (command.Pay id d c over) = One id
scope_of (command.Curtail id d c) = One id
scope_of (command.Payoff id d c) = One id
scope_of (command.Deposit id d c) = One id
scope_of (command.Disburse id d c line) = One id
scope_of (command.Refund id c) = One id
scope_of (command.Waive id c) = One id
scope_of (command.Reverse id number) = One id
scope_of (command.Line id line kind month every c) = One id
scope_of (command.Drop id line) = One id
scope_of (command.Analyse id plan) = One id
scope_of (command.Close p) = Every
scope_of (command.Remit p) = Every
scope_of (command.Retype id from kind) = One id

-- a command moves the business day on within its month
pub record IsWithinMonth (c : Command) (today : ℕ) : Type 0 where
  pub day : ℕ
  pub is : c ≡ command.Day day
  pub month : month_of day ≡ month_of today
