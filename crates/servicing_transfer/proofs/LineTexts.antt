-- Lines of a statement are their fields, one after the other.
use Rattle.std.proofs.Common.{◌≡◌, ℕ, List, [], ◌∷◌, ◌++◌, refl, sym, ap, subst, ◌∙◌, to_z, of_z, append_assoc}
use Rattle.std.specs.Prelude.{OnOk, Result, Ok, Err, codes, length, map, ℤ, FitsSigned}
use Rattle.std.specs.Int.{w128}
use Rattle.std.specs.List.{flat_map}
use Rattle.std.proofs.lemmas.Int.{to_z-of_z}
use Rattle.std.proofs.lemmas.List.Concat.{flat_map-append}
use Rattle.svc_base.specs.Text.{text_of_signed, text_of_day}
use Rattle.svc_world.specs.World.{World}
use Rattle.serv_line.specs.Replies.{ended, signed_field, number_field}
use Rattle.servicing_transfer.specs.StatementTexts.{heading_words, total_words, heading_line, loan_line, total_line, last_line, t_of, p_of, stated_loans, statement_lines, text_of_statement}

-- ---- what is pushed one after the other; each text, and what it comes to, is handed by name

pub pushed_as : {A E : Type 0} (r : Result A E) (o a b y : List ℕ) → a ≡ b → OnOk r (y ≡ o ++ a) → OnOk r (y ≡ o ++ b)
pushed_as (Ok v) o a b y is e = e ∙ ap (λ z. o ++ z) is
pushed_as (Err f) o a b y is e = tt

pub pushed2 : {A E : Type 0} (r : Result A E) (o a x b y : List ℕ) → x ≡ o ++ a → OnOk r (y ≡ x ++ b) → OnOk r (y ≡ o ++ (a ++ b))
pushed2 (Ok v) o a x b y ex e = e ∙ ap (λ z. z ++ b) ex ∙ append_assoc o a b
pushed2 (Err f) o a x b y ex e = tt

pub pushed3 : {A E : Type 0} (r : Result A E) (o a x b x2 c y : List ℕ) → x ≡ o ++ a → x2 ≡ x ++ b → OnOk r (y ≡ x2 ++ c) → OnOk r (y ≡ o ++ (a ++ (b ++ c)))
pushed3 r o a x b x2 c y ex ex2 e = pushed2 r o a x (b ++ c) y ex (pushed2 r x b x2 c y ex2 e)

pub pushed4 : {A E : Type 0} (r : Result A E) (o a x b x2 c x3 d y : List ℕ) → x ≡ o ++ a → x2 ≡ x ++ b → x3 ≡ x2 ++ c → OnOk r (y ≡ x3 ++ d) → OnOk r (y ≡ o ++ (a ++ (b ++ (c ++ d))))
pushed4 r o a x b x2 c x3 d y ex ex2 ex3 e = pushed2 r o a x (b ++ (c ++ d)) y ex (pushed3 r x b x2 c x3 d y ex2 ex3 e)

-- an amount that was passed is the amount
pub as_passed : (P : ℤ → Type 0) (z : ℤ) → FitsSigned w128 z → P (to_z w128 (of_z w128 z)) → P z
as_passed P z fits h = subst P (to_z-of_z w128 z fits) h

-- ---- lines

pub heading_text : (day n : ℕ) → codes "statement " ++ (text_of_day day ++ (number_field (codes "loans") n ++ (10 ∷ []))) ≡ ended (heading_line day n)
unfolding heading_line heading_words number_field
heading_text day n =
    ap (λ r. codes "statement " ++ r) (sym (append_assoc (text_of_day day) (number_field (codes "loans") n) (10 ∷ [])))

pub total_text : (t p : ℤ) → codes "total" ++ (signed_field (codes "T") t ++ signed_field (codes "P") p) ≡ total_line t p
unfolding total_line total_words signed_field
total_text t p = ap (λ r. codes "total" ++ r) (append_assoc (32 ∷ codes "T") (32 ∷ text_of_signed t) (signed_field (codes "P") p))

-- the whole text, line after line
pub statement_text : (w : World) (n : ℕ) (t p : ℤ) (o1 o2 o3 o4 : List ℕ) → n ≡ length (stated_loans w) → t ≡ t_of (stated_loans w) → p ≡ p_of (stated_loans w) →
    o1 ≡ ended (heading_line w.today n) → o2 ≡ o1 ++ flat_map ended (map loan_line (stated_loans w)) → o3 ≡ o2 ++ total_line t p → o4 ≡ o3 ++ codes "\nend\n" → o4 ≡ text_of_statement w
unfolding text_of_statement statement_lines
statement_text w n t p o1 o2 o3 o4 n_is t_is p_is e1 e2 e3 e4 =
    let head = ended (heading_line w.today (length (stated_loans w))) in
    let lines = map loan_line (stated_loans w) in
    let total = total_line (t_of (stated_loans w)) (p_of (stated_loans w)) in
    let first : o1 ≡ head = e1 ∙ ap (λ k. ended (heading_line w.today k)) n_is in
    let sum : total_line t p ≡ total = ap (λ z. total_line z p) t_is ∙ ap (total_line (t_of (stated_loans w))) p_is in
    e4 ∙ ap (λ x. x ++ codes "\nend\n") (e3 ∙ ap (λ x. x ++ total_line t p) (e2 ∙ ap (λ x. x ++ flat_map ended lines) first) ∙ ap (λ x. (head ++ flat_map ended lines) ++ x) sum)
    ∙ append_assoc (head ++ flat_map ended lines) total (codes "\nend\n")
    ∙ append_assoc head (flat_map ended lines) (total ++ codes "\nend\n")
    ∙ ap (λ x. head ++ (flat_map ended lines ++ x)) (sym (append_assoc total (10 ∷ []) (codes "end\n")))
    ∙ ap (λ x. head ++ x) (sym (flat_map-append ended lines (total ∷ last_line ∷ [])))

-- a field as it is pushed
pub field_text : (name : List ℕ) (z : ℤ) → (32 ∷ []) ++ (name ++ ((32 ∷ []) ++ text_of_signed z)) ≡ signed_field name z
unfolding signed_field
field_text name z = refl
