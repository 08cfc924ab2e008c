-- How a statement differs from the books: the text that confirming it writes.
use Rattle.std.specs.Prelude.{◌≡◌, ℕ, Bool, true, false, ◌==◌, ◌&&◌, nat_lt, if◌then◌else◌, List, [], ◌∷◌, ◌++◌, map, codes, Option, Some, None}
use Rattle.std.specs.List.{find, flat_map}
use Rattle.std.specs.Ordering.{int_eq}
use Rattle.svc_base.specs.Text.{text_of_number}
use Rattle.serv_line.specs.Replies.{ended}
use Rattle.serv_report.specs.Texts.{end_line}
use Rattle.svc_world.specs.World.{World}
use Rattle.servicing_transfer.specs.declared.statement_line.StatementLine.{StatementLine}
use Rattle.servicing_transfer.specs.StatementTexts.{stated_loans}
use Rattle.servicing_transfer.specs.Stated.{IsStatement}

-- the numbers of loans, rising, with one more where it is not among them
abbrev pub with_number : ℕ → List ℕ → List ℕ
with_number n [] = n ∷ []
with_number n (x ∷ xs) = if nat_lt n x then n ∷ x ∷ xs else if n == x then x ∷ xs else x ∷ with_number n xs

-- the numbers of two lists of rising numbers, each once, rising
abbrev pub together : List ℕ → List ℕ → List ℕ
together [] ys = ys
together (x ∷ xs) ys = with_number x (together xs ys)

-- the numbers of the loans that are stated
abbrev pub loan_numbers : List StatementLine → List ℕ
loan_numbers stated = map (λ (s : StatementLine). s.loan) stated

-- what is stated of a loan
abbrev pub stated_of : ℕ → List StatementLine → Option StatementLine
stated_of id stated = find (λ (s : StatementLine). s.loan == id) stated

-- the same month, or none in both
abbrev pub same_month : Option ℕ → Option ℕ → Bool
same_month None None = true
same_month None (Some n) = false
same_month (Some m) None = false
same_month (Some m) (Some n) = m == n

-- the same is stated of a loan
unfoldable pub same_line : StatementLine → StatementLine → Bool
same_line r s =
    (r.loan == s.loan) && (int_eq r.upb s.upb && (same_month r.next s.next && (int_eq r.escrow s.escrow
    && (int_eq r.suspense s.suspense && (int_eq r.late s.late && (int_eq r.escrow_advance s.escrow_advance
    && (int_eq r.held s.held && int_eq r.pi_advance s.pi_advance)))))))

abbrev pub word_of_same : Bool → List ℕ
word_of_same true = codes "same"
word_of_same false = codes "differs"

-- how a loan of a text stands to the books: missing there, or extra where the text does not have it
abbrev pub word_for : Option StatementLine → Option StatementLine → List ℕ
word_for (Some r) (Some s) = word_of_same (same_line r s)
word_for (Some r) None = codes "missing"
word_for None (Some s) = codes "extra"
word_for None None = []

-- the line for a loan
abbrev pub line_about : List StatementLine → List StatementLine → ℕ → List ℕ
line_about text books id = ended (word_for (stated_of id text) (stated_of id books) ++ (32 ∷ text_of_number id))

-- the day, then each loan of the text or of the books, by rising number
unfoldable pub text_of_differences : ℕ → List StatementLine → ℕ → List StatementLine → List ℕ
text_of_differences day text today books =
    ended (codes "day " ++ word_of_same (day == today))
    ++ flat_map (line_about text books) (together (loan_numbers text) (loan_numbers books)) ++ end_line

-- the text where both say the same, on the day of the books
unfoldable pub text_of_no_difference : List StatementLine → List ℕ
text_of_no_difference stated =
    ended (codes "day same")
    ++ flat_map (λ (s : StatementLine). ended (codes "same" ++ (32 ∷ text_of_number s.loan))) stated ++ end_line

-- what is written where a text is confirmed: it is a statement, and these are its differences
pub record IsConfirmation (w : World) (text written : List ℕ) : Type 0 where
  pub day : ℕ
  pub stated : List StatementLine
  pub statement : IsStatement text day stated
  pub differences : written ≡ text_of_differences day stated w.today (stated_loans w)
