-- Which terms a loan may have.
use Rattle.std.specs.Prelude.{◌+◌, ◌≤◌, ◌==◌, ◌||◌, ◌&&◌, not, Bool, List, [], ◌∷◌, Option, ℤ, pos, ◌≤ℤ◌, ◌<ℤ◌, int_le, int_lt, nat_le}
use Rattle.std.specs.List.{find}
use Rattle.svc_base.specs.Calendar.{month_of}
use Rattle.svc_base.specs.Money.{month_interest}
use Rattle.svc_types.specs.declared.terms.Terms.{Terms}
use Rattle.svc_types.specs.declared.faults.TermFault.{TermFault}
use Rattle.svc_types.specs.declared.faults.TermFault.TheVariants.{Principal, RateRange, FeeRange, Payment, Term, FirstDue, Grace, Late, Cushion, EscrowPay}

-- z lies from low to high, both included
abbrev pub is_between : ℤ → ℤ → ℤ → Bool
is_between low high z = int_le low z && int_le z high

-- whether the terms are in the range that a fault speaks of
abbrev pub is_in_range : Terms → TermFault → Bool
is_in_range t Principal = is_between (pos 1) (pos 10_000_000_000) t.principal
is_in_range t RateRange = nat_le 1 t.rate && nat_le t.rate 25_000
is_in_range t FeeRange = nat_le t.fee t.rate
is_in_range t Payment = int_lt (month_interest t.principal t.rate) t.pi && int_le t.pi (pos 10_000_000_000)
is_in_range t Term = nat_le 1 t.term && nat_le t.term 480
is_in_range t FirstDue = (t.first == month_of t.boarded + 1) || (t.first == month_of t.boarded + 2)
is_in_range t Grace = nat_le t.grace 28
is_in_range t Late = nat_le t.late 1_000
is_in_range t Cushion = nat_le t.cushion 2
is_in_range t EscrowPay = is_between (pos 0) (pos 10_000_000_000) t.escrow

-- the faults in the order in which they are named
abbrev pub term_faults : List TermFault
term_faults = Principal ∷ RateRange ∷ FeeRange ∷ Payment ∷ Term ∷ FirstDue ∷ Grace ∷ Late ∷ Cushion ∷ EscrowPay ∷ []

-- the first of some faults whose range the terms miss, if they miss one
abbrev pub first_missed : Terms → List TermFault → Option TermFault
first_missed t faults = find (λ f. not (is_in_range t f)) faults

-- the first fault whose range the terms miss
abbrev pub term_fault : Terms → Option TermFault
term_fault t = first_missed t term_faults

-- the terms are in every range
pub record IsSound (t : Terms) : Type 0 where
  pub principal_low : pos 1 ≤ℤ t.principal
  pub principal_high : t.principal ≤ℤ pos 10_000_000_000
  pub rate_low : 1 ≤ t.rate
  pub rate_high : t.rate ≤ 25_000
  pub fee : t.fee ≤ t.rate
  pub pi_low : month_interest t.principal t.rate <ℤ t.pi
  pub pi_high : t.pi ≤ℤ pos 10_000_000_000
  pub term_low : 1 ≤ t.term
  pub term_high : t.term ≤ 480
  pub first_low : month_of t.boarded + 1 ≤ t.first
  pub first_high : t.first ≤ month_of t.boarded + 2
  pub grace : t.grace ≤ 28
  pub late : t.late ≤ 1_000
  pub cushion : t.cushion ≤ 2
  pub escrow_low : pos 0 ≤ℤ t.escrow
  pub escrow_high : t.escrow ≤ℤ pos 10_000_000_000
