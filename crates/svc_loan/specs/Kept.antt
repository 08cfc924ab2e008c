-- A loan as it is kept: what is held of it, how many of its months are closed, what was remitted for it, and
-- for how much more there is room.
use Rattle.std.specs.Prelude.{ℕ, ◌+◌, ◌≤◌, List, ℤ}
use Rattle.svc_base.specs.Calendar.{month_of}
use Rattle.svc_types.specs.declared.requests.TypeChange.{TypeChange}
use Rattle.svc_spec.specs.Accounts.{Account}
use Rattle.svc_replay.specs.Kept.{Room}
use Rattle.escrow_lines.specs.declared.line.Line.{Line}
use Rattle.svc_world.specs.Held.{Held}

-- how many entries, reversals and months of the books, closed months and changes of type can be added
-- without memory
pub record LoanRoom : Type 0 where
  pub books : Room
  pub closings : ℕ
  pub types : ℕ

pub record KeptLoan : Type 0 where
  pub held : Held
  pub closed : ℕ
  pub remitted : ℤ
  pub room : LoanRoom

-- changes of remittance type, in the order in which they were accepted, and the room for more
pub record KeptTypes : Type 0 where
  pub changes : List TypeChange
  pub room : ℕ

-- a loan of these parts
abbrev pub held_of : ℕ → Account → List Line → List TypeChange → Held
held_of id a lines types = record { id = id; account = a; lines = lines; types = types }

-- a loan has room for one more entry, reversal, change of type and closed month, and for a business day
pub record IsReady (today : ℕ) (k : KeptLoan) : Type 0 where
  pub entry : 1 ≤ k.room.books.entries
  pub reversal : 1 ≤ k.room.books.reversals
  pub months : month_of today ≤ month_of k.held.account.today + k.room.books.months
  pub closing : 1 ≤ k.room.closings
  pub types : 1 ≤ k.room.types

-- up to which month there is room for a business day
abbrev pub months_ahead : KeptLoan → ℕ
months_ahead k = month_of k.held.account.today + k.room.books.months

-- a loan has room for a business day and for one more closed month
pub record HasMonth (today : ℕ) (k : KeptLoan) : Type 0 where
  pub months : month_of today ≤ month_of k.held.account.today + k.room.books.months
  pub closing : 1 ≤ k.room.closings

-- a loan has room for business days up to a month, and for so many closed months
pub record IsAhead (until closings : ℕ) (k : KeptLoan) : Type 0 where
  pub months : until ≤ months_ahead k
  pub closing : closings ≤ k.room.closings

-- a loan has room for one more entry and reversal, for business days up to a month, and for so many closed months
pub record HasAmpleRoom (until closings : ℕ) (k : KeptLoan) : Type 0 where
  pub entry : 1 ≤ k.room.books.entries
  pub reversal : 1 ≤ k.room.books.reversals
  pub ahead : IsAhead until closings k

-- the room of a loan for business days and closed months is lowered by no more than so many closed months
pub record KeepsMonths (used : ℕ) (old new : KeptLoan) : Type 0 where
  pub months : months_ahead old ≤ months_ahead new
  pub closing : old.room.closings ≤ new.room.closings + used
