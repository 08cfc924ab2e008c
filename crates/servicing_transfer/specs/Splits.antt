-- What a transfer keeps: loans, reports and cash of a part are those of the whole.
use Rattle.std.specs.Prelude.{◌≡◌, ℕ, Bool, if◌then◌else◌, List, [], Option, Some, None, ⊤, ◌+ℤ◌}
use Rattle.std.specs.List.{filter}
use Rattle.std.specs.Option.{option_map_or}
use Rattle.svc_spec.specs.Accounts.{books_of}
use Rattle.period_adjust.specs.declared.report_line.ReportLine.{ReportLine}
use Rattle.period_adjust.specs.Sealed.{Sealed}
use Rattle.svc_world.specs.Held.{Held, find_loan}
use Rattle.svc_world.specs.LoanDues.{due_of}
use Rattle.svc_world.specs.World.{World, Accepted, world}
use Rattle.svc_world.specs.Judging.{report_for, IsHistory}
use Rattle.svc_world.specs.Custody.{custody_of}
use Rattle.servicing_transfer.specs.Parts.{in_range, out_of_range, part_of}

-- a loan is kept: its terms, escrow lines and changes of type, its books at each day, and what is due of it
-- for each month
pub record IsSameLoan (l k : Held) : Type 0 where
  pub number : k.id ≡ l.id
  pub terms : k.account.terms ≡ l.account.terms
  pub lines : k.lines ≡ l.lines
  pub types : k.types ≡ l.types
  pub books : (d : ℕ) → books_of k.account d ≡ books_of l.account d
  pub dues : (p : ℕ) → due_of k p ≡ due_of l p

-- it is there where the whole has it, and else it is not
abbrev pub IsSameFound : Option Held → Option Held → Type 0
IsSameFound None None = ⊤
IsSameFound None (Some k) = ⊥
IsSameFound (Some l) None = ⊥
IsSameFound (Some l) (Some k) = IsSameLoan l k

-- the loan with a number, where it is of the set
abbrev pub loan_in : (ℕ → Bool) → World → ℕ → Option Held
loan_in set w id = if set id then find_loan id w.loans else None

-- a part has the loans of the set, on the same business day, and no other
pub record KeepsLoans (set : ℕ → Bool) (whole part : World) : Type 0 where
  pub today : part.today ≡ whole.today
  pub loans : (id : ℕ) → IsSameFound (loan_in set whole id) (find_loan id part.loans)

-- the lines that were reported for a month; none where it is not closed
abbrev pub lines_for : ℕ → List Sealed → List ReportLine
lines_for month reports = option_map_or (λ (r : Sealed). r.lines) (report_for month reports) []

-- a part's report of a month has the lines of its loans, as they were sent
abbrev pub KeepsLines : (ℕ → Bool) → World → World → Type 0
KeepsLines set whole part = (p : ℕ) →
    lines_for p part.seals.reports ≡ filter (λ (l : ReportLine). set l.loan) (lines_for p whole.seals.reports)

-- both custodial accounts hold for two parts together what they hold for the whole
pub record SharesCash (whole inside outside : World) : Type 0 where
  pub t : (custody_of whole).t ≡ (custody_of inside).t +ℤ (custody_of outside).t
  pub p : (custody_of whole).p ≡ (custody_of inside).p +ℤ (custody_of outside).p

-- one part of a history
pub record IsKeptPart (set : ℕ → Bool) (h part : List Accepted) : Type 0 where
  pub history : IsHistory part
  pub loans : KeepsLoans set (world h) (world part)
  pub lines : KeepsLines set (world h) (world part)

-- a history is split: both lists are histories with their loans and lines, and no cash is lost or made
pub record Splits (low high : ℕ) (h inside outside : List Accepted) : Type 0 where
  pub inside_is : inside ≡ part_of (in_range low high) h
  pub outside_is : outside ≡ part_of (out_of_range low high) h
  pub inside_kept : IsKeptPart (in_range low high) h inside
  pub outside_kept : IsKeptPart (out_of_range low high) h outside
  pub cash : SharesCash (world h) (world inside) (world outside)
