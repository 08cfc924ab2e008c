-- What custody holds for a loan, and what it counts for in the custodial line.
use Rattle.std.specs.Prelude.{◌≡◌, ◌≢◌, ℕ, ◌≤◌, ◌<◌, List, length, map, get_or, Option, Some, None, ℤ, pos, neg_ℤ, ◌+ℤ◌, ◌-ℤ◌, ◌≤ℤ◌}
use Rattle.std.specs.List.{All, AllPairs}
use Rattle.svc_base.specs.Sums.{total_by}
use Rattle.custodial_book.specs.declared.row.Totals.{Totals}
use Rattle.custodial_book.specs.Rows.{AreTotals}
use Rattle.svc_world.specs.declared.custody.Custody.{Custody}
use Rattle.svc_world.specs.Held.{Held, books_now}
use Rattle.svc_world.specs.World.{World}
use Rattle.svc_world.specs.Worlds.{IsLimited, AreReports}
use Rattle.svc_world.specs.Custody.{totals_of, no_totals, held_for}
use Rattle.svc_loan.specs.Kept.{KeptLoan}
use Rattle.svc_custody.specs.Cash.{totals_at, held_at, IsKeptIn}
use Rattle.svc_custody.specs.declared.position.Position.{Position}

-- what custody holds for a loan
abbrev pub position_of : World → Held → Position
position_of w l = record {
  totals = totals_of w l;
  suspense = (books_now l).suspense;
  escrow = (books_now l).escrow;
  held = held_for w l;
}

-- the same, read off a loan as it is kept, where that month was remitted last
abbrev pub kept_position : Option ℕ → KeptLoan → Position
kept_position remitted k = record {
  totals = totals_at remitted k;
  suspense = (books_now k.held).suspense;
  escrow = (books_now k.held).escrow;
  held = held_at remitted k;
}

-- for a loan that is not there it holds nothing
abbrev pub no_position : Position
no_position = record { totals = no_totals; suspense = pos 0; escrow = pos 0; held = pos 0 }

abbrev pub position : World → Option Held → Position
position w None = no_position
position w (Some l) = position_of w l

-- what custody holds for all loans, in the order of numbers
abbrev pub positions_of : World → List Position
positions_of w = map (position_of w) w.loans

-- their totals
abbrev pub totals_in : List Position → List Totals
totals_in positions = map (λ (x : Position). x.totals) positions

-- the positions as they are kept, and for how many more there is room
pub record KeptPositions : Type 0 where
  pub items : List Position
  pub room : ℕ

-- positions by places, each of which is that of one of them
abbrev pub listed : List Position → List ℕ → List Position
listed positions places = map (λ (i : ℕ). get_or positions i no_position) places

-- each position has one place
pub record ArePlaces (positions : List Position) (places : List ℕ) : Type 0 where
  pub count : length places ≡ length positions
  pub within : All (λ (i : ℕ). i < length positions) places
  pub apart : AllPairs (λ (i j : ℕ). i ≢ j) places

-- what a loan counts for in the custodial line
abbrev pub share_of : Position → Custody
share_of x = record {
  t = x.suspense +ℤ x.escrow +ℤ x.totals.escrow_advance;
  p = x.held;
  suspense = x.suspense;
  escrow = x.escrow;
  escrow_advance = x.totals.escrow_advance;
  held = x.held;
  pi_advance = x.totals.pi_advance;
}

-- the custodial line after one loan's position changed
abbrev pub line_after : Custody → Position → Position → Custody
line_after c before later = record {
  t = c.t +ℤ ((share_of later).t -ℤ (share_of before).t);
  p = c.p +ℤ ((share_of later).p -ℤ (share_of before).p);
  suspense = c.suspense +ℤ ((share_of later).suspense -ℤ (share_of before).suspense);
  escrow = c.escrow +ℤ ((share_of later).escrow -ℤ (share_of before).escrow);
  escrow_advance = c.escrow_advance +ℤ ((share_of later).escrow_advance -ℤ (share_of before).escrow_advance);
  held = c.held +ℤ ((share_of later).held -ℤ (share_of before).held);
  pi_advance = c.pi_advance +ℤ ((share_of later).pi_advance -ℤ (share_of before).pi_advance);
}

-- the custodial line of some positions
abbrev pub line_in : List Position → Custody
line_in xs = record {
  t = total_by (λ (x : Position). (share_of x).t) xs;
  p = total_by (λ (x : Position). (share_of x).p) xs;
  suspense = total_by (λ (x : Position). (share_of x).suspense) xs;
  escrow = total_by (λ (x : Position). (share_of x).escrow) xs;
  escrow_advance = total_by (λ (x : Position). (share_of x).escrow_advance) xs;
  held = total_by (λ (x : Position). (share_of x).held) xs;
  pi_advance = total_by (λ (x : Position). (share_of x).pi_advance) xs;
}

-- an amount that custody may hold for a loan: no further from 0 than 10^14 cents
pub record IsHolding (z : ℤ) : Type 0 where
  pub low : neg_ℤ (pos 100_000_000_000_000) ≤ℤ z
  pub high : z ≤ℤ pos 100_000_000_000_000

-- what custody may hold for a loan
pub record IsPosition (x : Position) : Type 0 where
  pub totals : AreTotals x.totals
  pub suspense : IsHolding x.suspense
  pub escrow : IsHolding x.escrow
  pub escrow_advance : IsHolding x.totals.escrow_advance
  pub held : IsHolding x.held
  pub pi_advance : IsHolding x.totals.pi_advance

-- what a loan may count for in a number of the custodial line: three such amounts
pub record IsShare (z : ℤ) : Type 0 where
  pub low : neg_ℤ (pos 300_000_000_000_000) ≤ℤ z
  pub high : z ≤ℤ pos 300_000_000_000_000

pub record AreShares (c : Custody) : Type 0 where
  pub t : IsShare c.t
  pub p : IsShare c.p
  pub suspense : IsShare c.suspense
  pub escrow : IsShare c.escrow
  pub escrow_advance : IsShare c.escrow_advance
  pub held : IsShare c.held
  pub pi_advance : IsShare c.pi_advance

-- a sum of that over 12,000 loans
pub record IsLineSum (z : ℤ) : Type 0 where
  pub low : neg_ℤ (pos 3_600_000_000_000_000_000) ≤ℤ z
  pub high : z ≤ℤ pos 3_600_000_000_000_000_000

pub record IsLine (c : Custody) : Type 0 where
  pub t : IsLineSum c.t
  pub p : IsLineSum c.p
  pub suspense : IsLineSum c.suspense
  pub escrow : IsLineSum c.escrow
  pub escrow_advance : IsLineSum c.escrow_advance
  pub held : IsLineSum c.held
  pub pi_advance : IsLineSum c.pi_advance

-- the positions of these loans can be read off as they are kept
pub record CanRead (w : World) (ks : List KeptLoan) : Type 0 where
  pub reports : AreReports w
  pub few : length ks ≤ 12_000
  pub limited : All (λ (k : KeptLoan). IsLimited k.held.account) ks
  pub kept : All (IsKeptIn w) ks
