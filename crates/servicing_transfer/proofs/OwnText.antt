-- The statement of a servicer is cut into its lines again: no line feed stands in one.
use Rattle.std.proofs.Common.{◌≡◌, ℕ, List, [], ◌∷◌, ◌++◌, map, length, refl, ap, ◌∙◌, arith, ℤ, false}
use Rattle.std.specs.Prelude.{codes, ◌==◌, if◌then◌else◌}
use Rattle.std.specs.List.{All, flat_map, onto_first}
use Rattle.std.proofs.lemmas.List.Elements.{All-head, All-tail}
use Rattle.serv_line.specs.Lines.{joined}
use Rattle.serv_line.specs.Replies.{ended}
use Rattle.servicing_transfer.specs.declared.statement_line.StatementLine.{StatementLine}
use Rattle.servicing_transfer.specs.LoanFields.{fields, values_of}
use Rattle.servicing_transfer.specs.StatementTexts.{t_of, p_of, heading_words, loan_words, total_words, heading_line, loan_line, total_line, last_line, statement_lines}
use Rattle.servicing_transfer.specs.Stated.{IsStatedNumber, IsStatedBalance, IsStatedLine, AreStated, text_lines}
use Rattle.servicing_transfer.proofs.FieldLemmas.{stated}
use Rattle.servicing_transfer.proofs.PlainLemmas.{HasNone, above, are_plain, both, in_balance, in_day, in_fields, in_number, none, plain}

-- ---- no line feed stands in a line

abbrev HasNoFeed : List ℕ → Type 0
HasNoFeed text = HasNone 10 text

in_joined : (words : List (List ℕ)) → are_plain 10 words → HasNoFeed (joined words)
unfolding are_plain
in_joined [] h = none 10
in_joined (w ∷ []) h = h.0
in_joined (w ∷ x ∷ xs) h = both 10 w (32 ∷ joined (x ∷ xs)) h.0 (above 10 32 (joined (x ∷ xs)) (omega arith) (in_joined (x ∷ xs) h.1))

in_heading : (day n : ℕ) → IsStatedNumber n → HasNoFeed (heading_line day n)
unfolding heading_line heading_words are_plain
in_heading day n is =
    in_joined (heading_words day n) (plain 10 (codes "statement") refl, (in_day 10 day (omega arith), (plain 10 (codes "loans") refl, (in_number 10 n (omega arith) (omega arith), tt))))

in_loan : (s : StatementLine) → IsStatedLine s → HasNoFeed (loan_line s)
unfolding loan_line loan_words
in_loan s is = in_joined (loan_words s) (in_fields 10 fields (values_of s) (omega arith) refl (stated s is))

in_total : (t p : ℤ) → IsStatedBalance t → IsStatedBalance p → HasNoFeed (total_line t p)
unfolding total_line total_words are_plain
in_total t p i j =
    in_joined (total_words t p) (plain 10 (codes "total") refl, (plain 10 (codes "T") refl, (in_balance 10 t (omega arith) i, (plain 10 (codes "P") refl, (in_balance 10 p (omega arith) j, tt)))))

-- ---- lines that are ended are cut again

cut : (line rest : List ℕ) → HasNoFeed line → text_lines ((line ++ (10 ∷ [])) ++ rest) ≡ line ∷ text_lines rest
cut [] rest h = refl
cut (b ∷ line) rest h =
    ap (λ v. if v then [] ∷ text_lines ((line ++ (10 ∷ [])) ++ rest) else onto_first b (text_lines ((line ++ (10 ∷ [])) ++ rest))) (All-head (λ b. (b == 10) ≡ false) b line h)
    ∙ ap (onto_first b) (cut line rest (All-tail (λ b. (b == 10) ≡ false) b line h))

cut_all : (lines : List (List ℕ)) → are_plain 10 lines → text_lines (flat_map ended lines) ≡ lines
unfolding are_plain
cut_all [] h = refl
cut_all (l ∷ ls) h = cut l (flat_map ended ls) h.0 ∙ ap (λ ks. l ∷ ks) (cut_all ls h.1)

loans_then : (stated : List StatementLine) (rest : List (List ℕ)) → All IsStatedLine stated → are_plain 10 rest → are_plain 10 (map loan_line stated ++ rest)
unfolding are_plain
loans_then [] rest h r = r
loans_then (s ∷ ss) rest h r = (in_loan s (All-head IsStatedLine s ss h), loans_then ss rest (All-tail IsStatedLine s ss h) r)

pub own_lines : (day : ℕ) (stated : List StatementLine) → AreStated stated → text_lines (flat_map ended (statement_lines day stated)) ≡ statement_lines day stated
unfolding statement_lines are_plain
own_lines day stated h =
    cut_all (statement_lines day stated) (in_heading day (length stated) h.count, loans_then stated (total_line (t_of stated) (p_of stated) ∷ last_line ∷ []) h.each (in_total (t_of stated) (p_of stated) h.t h.p, (plain 10 last_line refl, tt)))
