-- An amount that a refusal names is not below 0.
use Rattle.std.specs.Prelude.{pos, ◌≤ℤ◌, ⊤}
use Rattle.svc_types.specs.declared.replies.Refusal.{Refusal}
use Rattle.svc_types.specs.declared.replies.Refusal.TheVariants.{OverPrincipal, PayoffShort, OverRefund, OverWaiver}

-- the balance, the payoff due, what is available, the late charges owed; the others name no amount
abbrev pub IsUnsignedRefusal : Refusal → Type 0
IsUnsignedRefusal (OverPrincipal cents) = pos 0 ≤ℤ cents
IsUnsignedRefusal (PayoffShort cents) = pos 0 ≤ℤ cents
IsUnsignedRefusal (OverRefund cents) = pos 0 ≤ℤ cents
IsUnsignedRefusal (OverWaiver cents) = pos 0 ≤ℤ cents
IsUnsignedRefusal why = ⊤
