-- A text is one statement at most, none of its lines is bad then, and what says the same as the books is confirmed.
use Rattle.std.proofs.Common.{◌≡◌, ℕ, List, [], ◌∷◌, ◌++◌, map, flat_map, length, take, refl, sym, ap, ◌∙◌, arith, Option, Some, None, true, ℤ, codes}
use Rattle.std.specs.Prelude.{◌==◌, min, if◌then◌else◌}
use Rattle.std.specs.List.{AllPairs}
use Rattle.std.specs.Ordering.{int_eq}
use Rattle.std.proofs.lemmas.Bool.Decides.{Decides-int_eq, nat_tests}
use Rattle.svc_base.specs.Calendar.{IsReadDay}
use Rattle.svc_base.specs.Text.{text_of_number}
use Rattle.svc_base.proofs.TextLemmas.{day_injective}
use Rattle.serv_line.specs.Lines.{words_of}
use Rattle.serv_line.specs.Replies.{ended}
use Rattle.serv_report.specs.Texts.{end_line}
use Rattle.svc_world.specs.World.{World}
use Rattle.servicing_transfer.specs.declared.statement_line.StatementLine.{StatementLine}
use Rattle.servicing_transfer.specs.StatementTexts.{heading_words, heading_line, loan_line, statement_lines, stated_loans}
use Rattle.servicing_transfer.specs.Stated.{IsStatedNumber, IsStatement, rises}
use Rattle.servicing_transfer.specs.Confirmations.{same_month, same_line, word_of_same, word_for, text_of_differences, text_of_no_difference, IsConfirmation}
use Rattle.servicing_transfer.specs.Differences.{least_loan, first_for, left_after, lines_about}
use Rattle.svc_types.proofs.OrderLemmas.{pairs_tail}
use Rattle.servicing_transfer.proofs.DifferenceLemmas.{IsTaken, taken, one_about, none_about}
use Rattle.servicing_transfer.proofs.LineWords.{heading_line_words, same_count, day_word}
use Rattle.servicing_transfer.proofs.FitsLemmas.{same_loans, firsts}

-- ---- a text is one statement at most

same_day : (day n day' n' : ℕ) → IsReadDay day → IsReadDay day' → IsStatedNumber n → IsStatedNumber n' → heading_line day n ≡ heading_line day' n' → day ≡ day'
unfolding heading_words
same_day day n day' n' p q i j e =
    let words : heading_words day n ≡ heading_words day' n' = sym (heading_line_words day n i) ∙ ap words_of e ∙ heading_line_words day' n' j in
    day_injective day day' (record { exists = p.exists; year = omega arith }) (record { exists = q.exists; year = omega arith }) (day_word words)

heads : {a b : List ℕ} {xs ys : List (List ℕ)} → a ∷ xs ≡ b ∷ ys → a ≡ b
heads e = cc

tails : {a b : List ℕ} {xs ys : List (List ℕ)} → a ∷ xs ≡ b ∷ ys → xs ≡ ys
tails e = cc

pub one_day : (text : List ℕ) (day day' : ℕ) (stated stated' : List StatementLine) → IsStatement text day stated → IsStatement text day' stated' → day ≡ day'
unfolding statement_lines
one_day text day day' stated stated' p q =
    same_day day (length stated) day' (length stated') p.dated q.dated p.loans.count q.loans.count (heads (sym p.lines ∙ q.lines))

pub one_statement : (text : List ℕ) (day day' : ℕ) (stated stated' : List StatementLine) → IsStatement text day stated → IsStatement text day' stated' → stated ≡ stated'
unfolding statement_lines
one_statement text day day' stated stated' p q =
    let all = sym p.lines ∙ q.lines in
    let count : length stated ≡ length stated' = same_count day (length stated) day' (length stated') p.loans.count q.loans.count (heads all) in
    let texts : map loan_line stated ≡ map loan_line stated' = sym (firsts (length stated) _ stated _ refl refl) ∙ ap (take (length stated)) (tails all) ∙ firsts (length stated) _ stated' _ refl (sym count) in
    same_loans stated stated' p.loans.each q.loans.each texts

-- ---- what says the same as the books

is_same_number : (n : ℕ) → (n == n) ≡ true
is_same_number n = grind (arith, nat_tests)

is_same_amount : (z : ℤ) → int_eq z z ≡ true
is_same_amount z = (Decides-int_eq z z).1 refl

is_same_month : (o : Option ℕ) → same_month o o ≡ true
is_same_month None = refl
is_same_month (Some m) = is_same_number m

is_same_line : (s : StatementLine) → same_line s s ≡ true
unfolding same_line
is_same_line s =
    rw (is_same_number s.loan) (rw (is_same_amount s.upb) (rw (is_same_month s.next) (rw (is_same_amount s.escrow) (rw (is_same_amount s.suspense) (rw (is_same_amount s.late) (rw (is_same_amount s.escrow_advance) (rw (is_same_amount s.held) (is_same_amount s.pi_advance))))))))

min_same : (n : ℕ) → min n n ≡ n
min_same n = omega arith

abbrev line_same : StatementLine → List ℕ
line_same s = ended (codes "same" ++ (32 ∷ text_of_number s.loan))

same_lines : (stated : List StatementLine) → AllPairs rises stated → lines_about stated stated ≡ flat_map line_same stated
same_lines [] up = none_about [] [] refl
same_lines (s ∷ ss) up =
    let found : (s.loan == s.loan) ≡ true = is_same_number s.loan in
    let least : least_loan (s ∷ ss) (s ∷ ss) ≡ Some s.loan = ap Some (min_same s.loan) in
    let first : first_for s.loan (s ∷ ss) ≡ Some s = ap (λ b. if b then Some s else None) found in
    let left : left_after s.loan (s ∷ ss) ≡ ss = ap (λ b. if b then ss else s ∷ ss) found in
    let is : IsTaken s.loan (s ∷ ss) = taken s.loan (s ∷ ss) up (omega arith) in
    one_about s.loan (s ∷ ss) (s ∷ ss) least is is
    ∙ ap (λ o. ended (word_for o o ++ (32 ∷ text_of_number s.loan)) ++ lines_about (left_after s.loan (s ∷ ss)) (left_after s.loan (s ∷ ss))) first
    ∙ ap (λ b. ended (word_of_same b ++ (32 ∷ text_of_number s.loan)) ++ lines_about (left_after s.loan (s ∷ ss)) (left_after s.loan (s ∷ ss))) (is_same_line s)
    ∙ ap (λ (ks : List StatementLine). line_same s ++ lines_about ks ks) left
    ∙ ap (λ x. line_same s ++ x) (same_lines ss (pairs_tail rises s ss up))

no_difference : (day : ℕ) (stated : List StatementLine) → AllPairs rises stated → text_of_differences day stated day stated ≡ text_of_no_difference stated
unfolding text_of_differences text_of_no_difference
no_difference day stated up =
    ap (λ b. ended (codes "day " ++ word_of_same b) ++ lines_about stated stated ++ end_line) (is_same_number day)
    ∙ ap (λ x. ended (codes "day same") ++ x ++ end_line) (same_lines stated up)

pub same_as_books : (w : World) (text written : List ℕ) → IsStatement text w.today (stated_loans w) → IsConfirmation w text written → written ≡ text_of_no_difference (stated_loans w)
same_as_books w text written own c =
    let day : c.day ≡ w.today = one_day text c.day w.today c.stated (stated_loans w) c.statement own in
    let stated : c.stated ≡ stated_loans w = one_statement text c.day w.today c.stated (stated_loans w) c.statement own in
    c.differences ∙ ap (λ d. text_of_differences d c.stated w.today (stated_loans w)) day
    ∙ ap (λ (st : List StatementLine). text_of_differences w.today st w.today (stated_loans w)) stated
    ∙ no_difference w.today (stated_loans w) own.loans.rising
