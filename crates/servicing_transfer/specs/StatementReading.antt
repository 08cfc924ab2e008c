-- Lines of a statement that were read so far, and where what is left of its lines goes wrong.
use Rattle.std.specs.Prelude.{◌≡◌, ◌≢◌, ℕ, ◌+◌, ◌-◌, ◌<◌, length, List, [], ◌∷◌, codes, slice_get, Option, Some, None, ⊤}
use Rattle.std.specs.List.{All, AllPairs}
use Rattle.std.specs.Option.{option_map}
use Rattle.serv_line.specs.LineFaults.{IsFirstMisfit}
use Rattle.servicing_transfer.specs.declared.statement_line.StatementLine.{StatementLine}
use Rattle.servicing_transfer.specs.declared.confirm_fault.ConfirmFault.{ConfirmFault}
use Rattle.servicing_transfer.specs.declared.confirm_fault.ConfirmFault.TheVariants as fault
use Rattle.servicing_transfer.specs.StatementTexts.{t_of, p_of, total_line, last_line}
use Rattle.servicing_transfer.specs.Stated.{IsStatedBalance, IsStatedLine, rises, FitsAfter}

-- the words of a heading with those of its day and its number
abbrev pub words_with : List ℕ → List ℕ → List (List ℕ)
words_with day count = codes "statement" ∷ day ∷ codes "loans" ∷ count ∷ []

-- loans that rise
pub record AreLoans (stated : List StatementLine) : Type 0 where
  pub each : All IsStatedLine stated
  pub rising : AllPairs rises stated

-- the number of the last loan, if there is one
abbrev pub last_loan : List StatementLine → Option ℕ
last_loan stated = option_map (λ (s : StatementLine). s.loan) (slice_get stated (length stated - 1))

-- a loan's number is above that of the loan before, if there is one
abbrev pub rises_from : Option ℕ → StatementLine → Type 0
rises_from None s = ⊤
rises_from (Some n) s = n < s.loan

-- the first of some lines says what loans add up to
pub record IsTotalBefore (stated : List StatementLine) (lines rest : List (List ℕ)) : Type 0 where
  pub begins : lines ≡ total_line (t_of stated) (p_of stated) ∷ rest
  pub t : IsStatedBalance (t_of stated)
  pub p : IsStatedBalance (p_of stated)

-- the line in a place says it
pub record IsTotalAt (stated : List StatementLine) (lines : List (List ℕ)) (i : ℕ) : Type 0 where
  pub total : slice_get lines i ≡ Some (total_line (t_of stated) (p_of stated))
  pub t : IsStatedBalance (t_of stated)
  pub p : IsStatedBalance (p_of stated)

-- lines are the total of loans and the last line
pub record IsEnd (stated : List StatementLine) (lines : List (List ℕ)) : Type 0 where
  pub all : lines ≡ total_line (t_of stated) (p_of stated) ∷ last_line ∷ []
  pub t : IsStatedBalance (t_of stated)
  pub p : IsStatedBalance (p_of stated)

-- the first of the lines behind those of loans that does not fit, counted from 1 in the text: the total, the last line,
-- or one behind it
pub data IsBadEnd (stated : List StatementLine) (lines : List (List ℕ)) (line : ℕ) : Type 0 where
  no_total : line ≡ length stated + 2 → (IsTotalAt stated lines 0 → ⊥) → IsBadEnd stated lines line
  no_last : (rest : List (List ℕ)) → line ≡ length stated + 3 → IsTotalBefore stated lines rest → slice_get rest 0 ≢ Some last_line → IsBadEnd stated lines line
  more : (behind rest : List (List ℕ)) → line ≡ length stated + 4 → IsTotalBefore stated lines behind → behind ≡ last_line ∷ rest → slice_get rest 0 ≢ None → IsBadEnd stated lines line

abbrev pub IsEndFault : List StatementLine → List (List ℕ) → ConfirmFault → Type 0
IsEndFault stated lines (fault.BadLine line) = IsBadEnd stated lines line
IsEndFault stated lines fault.OutOfMemory = ⊤

-- a line of a text, counted from 1, is the first after its first that does not fit
pub record IsBadAfter (n : ℕ) (lines : List (List ℕ)) (line : ℕ) : Type 0 where
  pub place : ℕ
  pub number : line ≡ place + 2
  pub first : IsFirstMisfit (FitsAfter n lines) place

abbrev pub IsFaultAfter : ℕ → List (List ℕ) → ConfirmFault → Type 0
IsFaultAfter n lines (fault.BadLine line) = IsBadAfter n lines line
IsFaultAfter n lines fault.OutOfMemory = ⊤
