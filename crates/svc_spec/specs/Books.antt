-- What holds of all books, where they begin, and which events they take.
use Rattle.std.specs.Prelude.{◌≡◌, ◌≤◌, is_some, None, ℤ, pos, ◌+ℤ◌, ◌≤ℤ◌, ◌<ℤ◌, int_le}
use Rattle.svc_base.specs.Calendar.{month_of}
use Rattle.svc_types.specs.declared.terms.Terms.{Terms}
use Rattle.svc_types.specs.declared.escrow.EscrowPlan.{EscrowPlan}
use Rattle.svc_types.specs.declared.books.Books.{Books}
use Rattle.svc_types.specs.declared.account.Act.{Act}
use Rattle.svc_types.specs.declared.account.Act.TheVariants.{Pay, Curtail, Payoff, Deposit}
use Rattle.svc_types.specs.declared.account.Act.TheVariants.{Disburse, Refund, Waive, Analyse}
use Rattle.svc_types.specs.declared.account.What.{What}
use Rattle.svc_types.specs.declared.account.What.TheVariants as what

-- an amount that an entry or a plan may name: 0 to 10^14 cents
pub record IsEntryAmount (z : ℤ) : Type 0 where
  pub low : pos 0 ≤ℤ z
  pub high : z ≤ℤ pos 100_000_000_000_000

-- a plan of the books
pub record IsPlan (p : EscrowPlan) : Type 0 where
  pub base : IsEntryAmount p.base
  pub credit : IsEntryAmount p.credit
  pub short : IsEntryAmount p.short
  pub short_months : p.short_months ≤ 60
  pub deficient : IsEntryAmount p.deficient
  pub deficient_months : p.deficient_months ≤ 60

-- what holds of the numbers of a loan's books, whatever its sums have come to
pub record HaveSigns (t : Terms) (b : Books) : Type 0 where
  pub upb_low : pos 0 ≤ℤ b.upb
  pub upb_high : b.upb ≤ℤ t.principal
  pub next_low : pos 0 <ℤ b.upb → 1 ≤ b.next
  pub next_high : pos 0 <ℤ b.upb → b.next ≤ t.term
  pub suspense : pos 0 ≤ℤ b.suspense
  pub late_owed : pos 0 ≤ℤ b.late_owed
  pub interest : pos 0 ≤ℤ b.interest
  pub fee : pos 0 ≤ℤ b.fee
  pub principal : pos 0 ≤ℤ b.principal
  pub curtailed : pos 0 ≤ℤ b.curtailed
  pub late_paid : pos 0 ≤ℤ b.late_paid
  pub plan : IsPlan b.plan
  pub earlier : IsPlan b.earlier

-- each sum lies between -10^18 and 10^18
pub record AreWithin (b : Books) : Type 0 where
  pub escrow_low : pos 0 ≤ℤ (b.escrow +ℤ pos 1_000_000_000_000_000_000)
  pub escrow_high : b.escrow ≤ℤ pos 1_000_000_000_000_000_000
  pub suspense : b.suspense ≤ℤ pos 1_000_000_000_000_000_000
  pub late_owed : b.late_owed ≤ℤ pos 1_000_000_000_000_000_000
  pub interest : b.interest ≤ℤ pos 1_000_000_000_000_000_000
  pub fee : b.fee ≤ℤ pos 1_000_000_000_000_000_000
  pub principal : b.principal ≤ℤ pos 1_000_000_000_000_000_000
  pub curtailed : b.curtailed ≤ℤ pos 1_000_000_000_000_000_000
  pub late_paid : b.late_paid ≤ℤ pos 1_000_000_000_000_000_000

-- books of a loan with these terms: a satisfied loan has a balance of 0, and no other has
pub record AreBooks (t : Terms) (b : Books) : Type 0 where
  pub signs : HaveSigns t b
  pub satisfied : is_some b.satisfied ≡ int_le b.upb (pos 0)
  pub within : AreWithin b

-- the plan of a loan at boarding
abbrev pub boarding_plan : Terms → EscrowPlan
boarding_plan t = record {
  start = month_of t.boarded;
  base = t.escrow;
  credit = pos 0;
  short = pos 0;
  short_months = 0;
  deficient = pos 0;
  deficient_months = 0;
}

-- the books at boarding
unfoldable pub start : Terms → Books
start t = record {
  day = t.boarded;
  upb = t.principal;
  next = 1;
  escrow = pos 0;
  suspense = pos 0;
  late_owed = pos 0;
  interest = pos 0;
  fee = pos 0;
  principal = pos 0;
  curtailed = pos 0;
  late_paid = pos 0;
  plan = boarding_plan t;
  earlier = boarding_plan t;
  satisfied = None;
}

-- an act whose amounts a step takes
abbrev pub IsAct : Act → Type 0
IsAct (Pay c to) = IsEntryAmount c
IsAct (Curtail c) = IsEntryAmount c
IsAct (Payoff c) = IsEntryAmount c
IsAct (Deposit c) = IsEntryAmount c
IsAct (Disburse c line) = IsEntryAmount c
IsAct (Refund c) = IsEntryAmount c
IsAct (Waive c) = IsEntryAmount c
IsAct (Analyse s) = IsEntryAmount s.refund × IsEntryAmount s.within30 × IsPlan s.plan

abbrev pub IsWhat : What → Type 0
IsWhat what.MonthMark = Unit {0}
IsWhat (what.LateMark k) = Unit {0}
IsWhat (what.Act a) = IsAct a

-- all money that the books hold or have taken in
abbrev pub total : Books → ℤ
total b = b.suspense +ℤ b.escrow +ℤ b.interest +ℤ b.principal +ℤ b.late_paid
