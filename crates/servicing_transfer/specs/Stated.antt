-- What a text says that is a statement, and where a text that is none goes wrong.
use Rattle.std.specs.Prelude.{◌≡◌, ℕ, ◌+◌, ◌^◌, ◌<◌, ◌≤◌, ◌==◌, if◌then◌else◌, List, [], ◌∷◌, map, length, take, drop, slice_get, ℤ, pos, neg_ℤ, ◌≤ℤ◌, ◌<ℤ◌, Some, None, IfSome, ⊤}
use Rattle.std.specs.List.{All, AllPairs, onto_first}
use Rattle.svc_base.specs.Calendar.{year_of_month, IsReadDay}
use Rattle.serv_line.specs.LineFaults.{IsFirstMisfit}
use Rattle.servicing_transfer.specs.declared.statement_line.StatementLine.{StatementLine}
use Rattle.servicing_transfer.specs.declared.confirm_fault.ConfirmFault.{ConfirmFault}
use Rattle.servicing_transfer.specs.declared.confirm_fault.ConfirmFault.TheVariants as fault
use Rattle.servicing_transfer.specs.StatementTexts.{t_of, p_of, heading_line, loan_line, total_line, last_line, statement_lines}

-- the lines of a text: each ends with a line feed, the last one with or without
abbrev pub text_lines : List ℕ → List (List ℕ)
text_lines [] = []
text_lines (b ∷ bytes) = if b == 10 then [] ∷ text_lines bytes else onto_first b (text_lines bytes)

-- ---- what may stand in it

-- a number of 32 bits
abbrev pub IsStatedNumber : ℕ → Type 0
IsStatedNumber n = n < 2 ^ 32

-- an amount that may be below zero: at most eighteen digits before its point
pub record IsStatedBalance (z : ℤ) : Type 0 where
  pub low : neg_ℤ (pos (10 ^ 20)) <ℤ z
  pub high : z <ℤ pos (10 ^ 20)

-- an amount
pub record IsStatedAmount (z : ℤ) : Type 0 where
  pub low : pos 0 ≤ℤ z
  pub high : z <ℤ pos (10 ^ 20)

-- a month of the years 1990 to 2140
pub record IsStatedMonth (m : ℕ) : Type 0 where
  pub first : 1990 ≤ year_of_month m
  pub last : year_of_month m ≤ 2140

pub record IsStatedLine (s : StatementLine) : Type 0 where
  pub loan : IsStatedNumber s.loan
  pub upb : IsStatedAmount s.upb
  pub next : IfSome s.next IsStatedMonth
  pub escrow : IsStatedBalance s.escrow
  pub suspense : IsStatedAmount s.suspense
  pub late : IsStatedAmount s.late
  pub escrow_advance : IsStatedAmount s.escrow_advance
  pub held : IsStatedAmount s.held
  pub pi_advance : IsStatedAmount s.pi_advance

abbrev pub rises : StatementLine → StatementLine → Type 0
rises r s = r.loan < s.loan

-- loans that rise, as many as a number says, with totals that can be stated
pub record AreStated (stated : List StatementLine) : Type 0 where
  pub count : IsStatedNumber (length stated)
  pub each : All IsStatedLine stated
  pub rising : AllPairs rises stated
  pub t : IsStatedBalance (t_of stated)
  pub p : IsStatedBalance (p_of stated)

-- the text says this of a day and of loans; its last line may lack its line feed
pub record IsStatement (text : List ℕ) (day : ℕ) (stated : List StatementLine) : Type 0 where
  pub lines : text_lines text ≡ statement_lines day stated
  pub dated : IsReadDay day
  pub loans : AreStated stated

-- ---- the first line that does not fit

-- lines begin with that of a day and a number of loans
pub record BeginsWith (lines : List (List ℕ)) (day n : ℕ) : Type 0 where
  pub line : slice_get lines 0 ≡ Some (heading_line day n)
  pub dated : IsReadDay day
  pub number : IsStatedNumber n

-- the line in a place is that of a loan
pub record IsLoanAt (lines : List (List ℕ)) (i : ℕ) (s : StatementLine) : Type 0 where
  pub line : slice_get lines i ≡ Some (loan_line s)
  pub loan : IsStatedLine s

-- the line behind those of these loans is what they add up to
pub record IsTotalOf (stated : List StatementLine) (lines : List (List ℕ)) : Type 0 where
  pub loans : take (length stated) lines ≡ map loan_line stated
  pub each : All IsStatedLine stated
  pub total : slice_get lines (length stated) ≡ Some (total_line (t_of stated) (p_of stated))
  pub t : IsStatedBalance (t_of stated)
  pub p : IsStatedBalance (p_of stated)

-- of the lines after the first, in a statement of n loans, the one in a place fits; places are counted from 0. Each
-- loan's number is above that of the line before; behind the last line nothing stands
pub data FitsAfter (n : ℕ) (lines : List (List ℕ)) : ℕ → Type 0 where
  first_loan : (s : StatementLine) → 0 < n → IsLoanAt lines 0 s → FitsAfter n lines 0
  next_loan : (i : ℕ) (r s : StatementLine) → i + 1 < n → IsLoanAt lines i r → IsLoanAt lines (i + 1) s → rises r s → FitsAfter n lines (i + 1)
  total : (stated : List StatementLine) → length stated ≡ n → IsTotalOf stated lines → FitsAfter n lines n
  last : slice_get lines (n + 1) ≡ Some last_line → FitsAfter n lines (n + 1)
  nothing : (i : ℕ) → n + 1 < i → slice_get lines i ≡ None → FitsAfter n lines i

-- the line in a place fits, by the lines before it
pub data Fits (lines : List (List ℕ)) : ℕ → Type 0 where
  heading : (day n : ℕ) → BeginsWith lines day n → Fits lines 0
  after : (day n i : ℕ) → BeginsWith lines day n → FitsAfter n (drop 1 lines) i → Fits lines (i + 1)

-- the first line of a text, counted from 1, that does not fit; it is the one behind the last where the text stops early
pub record IsBadLine (text : List ℕ) (line : ℕ) : Type 0 where
  pub place : ℕ
  pub number : line ≡ place + 1
  pub first : IsFirstMisfit (Fits (text_lines text)) place

-- why a text is not confirmed: it is no statement, or memory is short
abbrev pub IsConfirmFault : List ℕ → ConfirmFault → Type 0
IsConfirmFault text (fault.BadLine line) = IsBadLine text line
IsConfirmFault text fault.OutOfMemory = ⊤
