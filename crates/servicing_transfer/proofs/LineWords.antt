-- The words of a statement's lines tell what is stated.
use Rattle.std.proofs.Common.{rules, ◌≡◌, ◌≢◌, ℕ, ◌+◌, ◌/◌, List, [], ◌∷◌, refl, sym, ap, ◌∙◌, arith, Option, Some, None, IfSome}
use Rattle.std.specs.Prelude.{codes, ◌==◌}
use Rattle.std.specs.Borrow.{Bor}
use Rattle.std.proofs.lemmas.List.Splits.{slice_split_none, slice_split_at}
use Rattle.svc_base.specs.Text.{text_of_number, text_of_month}
use Rattle.svc_base.proofs.TextLemmas.{number_injective, month_injective}
use Rattle.serv_line.specs.Lines.{joined, words_of, words_left}
use Rattle.serv_line.proofs.WordLemmas.{of_words, split_joined}
use Rattle.servicing_transfer.specs.declared.statement_line.StatementLine.{StatementLine}
use Rattle.servicing_transfer.specs.declared.loan_fields.FieldKind.{FieldKind}
use Rattle.servicing_transfer.specs.declared.loan_fields.FieldKind.TheVariants as kind
use Rattle.servicing_transfer.specs.declared.loan_fields.Value.{Value}
use Rattle.servicing_transfer.specs.declared.loan_fields.Value.TheVariants as value
use Rattle.servicing_transfer.specs.LoanFields.{fields, next_word, text_of_value, values_of, words_of_fields}
use Rattle.servicing_transfer.specs.FieldValues.{AreValuesOf, IsValueOf}
use Rattle.servicing_transfer.specs.StatementTexts.{heading_words, loan_words, heading_line, loan_line}
use Rattle.servicing_transfer.specs.Stated.{IsStatedNumber, IsStatedMonth, IsStatedLine}
use Rattle.servicing_transfer.proofs.AmountLemmas.{balance_injective, amount_is_balance}
use Rattle.servicing_transfer.proofs.FieldLemmas.{made, stated}
use Rattle.servicing_transfer.proofs.PlainLemmas.{are_plain, in_day, in_fields, in_number, plain}

-- ---- words that are joined are split again

split_again : (w : List ℕ) (ws : List (List ℕ)) → are_plain 32 (w ∷ ws) → words_of (joined (w ∷ ws)) ≡ w ∷ ws
unfolding are_plain
split_again w [] h = slice_split_none (λ b. b == 32) w h.0
split_again w (x ∷ xs) h =
    slice_split_at (λ b. b == 32) w 32 (joined (x ∷ xs)) h.0 refl ∙ ap (λ (ws : List (List ℕ)). w ∷ ws) (split_again x xs h.1)

-- the words of a loan's line
pub loan_line_words : (s : StatementLine) → IsStatedLine s → words_of (loan_line s) ≡ loan_words s
unfolding loan_line loan_words
loan_line_words s is = split_again _ _ (in_fields 32 fields (values_of s) (omega arith) refl (stated s is))

pub heading_line_words : (day n : ℕ) → IsStatedNumber n → words_of (heading_line day n) ≡ heading_words day n
unfolding heading_line heading_words are_plain
heading_line_words day n is =
    split_again _ _ (plain 32 (codes "statement") refl, (in_day 32 day (omega arith), (plain 32 (codes "loans") refl, (in_number 32 n (omega arith) (omega arith), tt))))

-- ---- each has one text

same_next : (o p : Option ℕ) → IfSome o IsStatedMonth → IfSome p IsStatedMonth → next_word o ≡ next_word p → o ≡ p
unfolding text_of_month
same_next None None i j e = refl
same_next None (Some m) i j e = absurd (let h : 45 ≡ 48 + m / 12 / 100 / 10 = cc in omega arith)
same_next (Some m) None i j e = absurd (let h : 45 ≡ 48 + m / 12 / 100 / 10 = cc in omega arith)
same_next (Some m) (Some n) i j e = ap Some (month_injective m n (let h = i.last in omega arith) (let h = j.last in omega arith) e)

same_value : (k : FieldKind) (v w : Value) → IsValueOf k v → IsValueOf k w → text_of_value v ≡ text_of_value w → v ≡ w
same_value kind.Number (value.Number m) (value.Number n) p q e = ap value.Number (number_injective m n (omega arith) (omega arith) e)
same_value kind.Amount (value.Cents y) (value.Cents z) p q e = ap value.Cents (balance_injective y z (amount_is_balance y p) (amount_is_balance z q) e)
same_value kind.Balance (value.Cents y) (value.Cents z) p q e = ap value.Cents (balance_injective y z p q e)
same_value kind.Next (value.Next o) (value.Next n) p q e = ap value.Next (same_next o n p q e)
same_value k v w p q e = absurd (search rules)

same_values : (fs : List (List ℕ × FieldKind)) (vs ws : List Value) → AreValuesOf fs vs → AreValuesOf fs ws → words_of_fields fs vs ≡ words_of_fields fs ws → vs ≡ ws
same_values [] [] [] p q e = refl
same_values (f ∷ fs) (v ∷ vs) (w ∷ ws) p q e =
    let first : text_of_value v ≡ text_of_value w = cc in
    let rest : words_of_fields fs vs ≡ words_of_fields fs ws = cc in
    ap (λ x. x ∷ vs) (same_value f.1 v w p.0 q.0 first) ∙ ap (λ xs. w ∷ xs) (same_values fs vs ws p.1 q.1 rest)
same_values fs vs ws p q e = absurd (search rules)

pub same_words : (r s : StatementLine) → IsStatedLine r → IsStatedLine s → loan_words r ≡ loan_words s → r ≡ s
unfolding loan_words
same_words r s p q e = ap made (same_values fields (values_of r) (values_of s) (stated r p) (stated s q) e)

pub same_line_text : (r s : StatementLine) → IsStatedLine r → IsStatedLine s → loan_line r ≡ loan_line s → r ≡ s
same_line_text r s p q e = same_words r s p q (sym (loan_line_words r p) ∙ ap words_of e ∙ loan_line_words s q)

pub same_count : (day n day' n' : ℕ) → IsStatedNumber n → IsStatedNumber n' → heading_line day n ≡ heading_line day' n' → n ≡ n'
unfolding heading_words
same_count day n day' n' p q e =
    let words : heading_words day n ≡ heading_words day' n' = sym (heading_line_words day n p) ∙ ap words_of e ∙ heading_line_words day' n' q in
    let count : text_of_number n ≡ text_of_number n' = cc in
    number_injective n n' (omega arith) (omega arith) count

-- ---- words one after the other

pub tail2 : {l xs ys : List (List ℕ)} {a x b y : List ℕ} → l ≡ a ∷ x ∷ xs → l ≡ b ∷ y ∷ ys → xs ≡ ys
tail2 e f = cc

-- where a text is left, a word is left
pub some_words : (rest : Option (Bor (List ℕ))) (more : Bor (List ℕ)) → rest ≡ Some more → words_left rest ≡ [] → ⊥
some_words rest more e none = of_words (λ ws. ws ≡ [] → ⊥) (λ w ws h. absurd cc) more.now (ap words_left (sym e) ∙ none)

-- a line is a loan's where its words are
pub loan_line_is : (line : List ℕ) (s : StatementLine) → words_of line ≡ loan_words s → line ≡ loan_line s
unfolding loan_line
loan_line_is line s e = sym (split_joined line) ∙ ap joined e

pub no_loan_line : (line : List ℕ) → ((s : StatementLine) → IsStatedLine s → words_of line ≢ loan_words s) → (s : StatementLine) → IsStatedLine s → line ≢ loan_line s
no_loan_line line none s is e = none s is (ap words_of e ∙ loan_line_words s is)

pub heading_line_is : (line : List ℕ) (day n : ℕ) → words_of line ≡ heading_words day n → line ≡ heading_line day n
unfolding heading_line
heading_line_is line day n e = sym (split_joined line) ∙ ap joined e

pub no_heading : (line : List ℕ) (day n : ℕ) → IsStatedNumber n → (words_of line ≢ heading_words day n) → line ≢ heading_line day n
no_heading line day n is none e = none (ap words_of e ∙ heading_line_words day n is)

pub day_word : {a b c d : List ℕ} → codes "statement" ∷ a ∷ codes "loans" ∷ b ∷ [] ≡ codes "statement" ∷ c ∷ codes "loans" ∷ d ∷ [] → a ≡ c
day_word e = cc

pub count_word : {a b c d : List ℕ} → codes "statement" ∷ a ∷ codes "loans" ∷ b ∷ [] ≡ codes "statement" ∷ c ∷ codes "loans" ∷ d ∷ [] → b ≡ d
count_word e = cc
