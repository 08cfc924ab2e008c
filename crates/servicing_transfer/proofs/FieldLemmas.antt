-- The fields of a loan's line, read one after the other, and written.
use Rattle.std.proofs.Common.{rules, ◌≡◌, ◌≢◌, ℕ, ◌+◌, ◌<◌, ◌≤◌, List, [], ◌∷◌, ◌++◌, length, drop, get_or, map, refl, sym, ap, subst, ◌∙◌, append_assoc, append-nil, Option, Some, None, IfSome}
use Rattle.std.specs.Prelude.{codes}
use Rattle.std.specs.Borrow.{Bor}
use Rattle.std.proofs.lemmas.List.{drop-map, at_drop_more, at_drop_all}
use Rattle.svc_base.specs.Text.{text_of_month}
use Rattle.serv_line.specs.Lines.{joined}
use Rattle.servicing_transfer.specs.declared.statement_line.StatementLine.{StatementLine}
use Rattle.servicing_transfer.specs.declared.loan_fields.FieldKind.{FieldKind}
use Rattle.servicing_transfer.specs.declared.loan_fields.Value.{Value}
use Rattle.servicing_transfer.specs.declared.loan_fields.Value.TheVariants as value
use Rattle.servicing_transfer.specs.LoanFields.{fields, next_word, text_of_value, values_of, words_of_fields}
use Rattle.servicing_transfer.specs.FieldValues.{cents_in, month_in, number_in, said, AreValuesOf, IsValueOf, Spell}
use Rattle.servicing_transfer.specs.Stated.{IsStatedLine, IsStatedMonth}

pub no_next : (word : List ℕ) → word ≢ codes "-" → ((m : ℕ) → IsStatedMonth m → word ≢ text_of_month m) → (o : Option ℕ) → IfSome o IsStatedMonth → word ≢ next_word o
no_next word dash month None is e = dash e
no_next word dash month (Some m) is e = month m is e

-- ---- reading fields one after the other

-- words spell a field's value and those of others
record First (f : List ℕ × FieldKind) (rest : List (List ℕ × FieldKind)) (words : List (List ℕ)) : Type 0 where
  v : Value
  vs : List Value
  is : IsValueOf f.1 v
  others : AreValuesOf rest vs
  are : words ≡ f.0 ∷ text_of_value v ∷ words_of_fields rest vs

first_of : (f : List ℕ × FieldKind) (rest : List (List ℕ × FieldKind)) (us : List Value) (words : List (List ℕ)) → Spell (f ∷ rest) us words → First f rest words
first_of f rest [] words h = absurd h.kinds
first_of f rest (v ∷ vs) words h = record { v = v; vs = vs; is = h.kinds.0; others = h.kinds.1; are = h.are }

-- all fields but the rest are read, with these values: what spells the rest with what is left spells all, and where
-- nothing does, nothing spells all
pub record Reading (fs : List (List ℕ × FieldKind)) (words : List (List ℕ)) (rest : List (List ℕ × FieldKind)) (read : List Value) (left : List (List ℕ)) : Type 0 where
  pub forth : (vs : List Value) → Spell rest vs left → Spell fs (read ++ vs) words
  pub back : ((vs : List Value) → Spell rest vs left → ⊥) → (vs : List Value) → Spell fs vs words → ⊥

pub read_one : {fs rest : List (List ℕ × FieldKind)} {words left : List (List ℕ)} {read : List Value} (more : List (List ℕ)) (word : List ℕ) (f : List ℕ × FieldKind) (v : Value)
    → Reading fs words (f ∷ rest) read left → left ≡ f.0 ∷ word ∷ more → word ≡ text_of_value v → IsValueOf f.1 v → Reading fs words rest (read ++ v ∷ []) more
read_one {fs} {rest} {words} {left} {read} more word f v r e spelled is =
    record {
      forth = λ vs h.
          let next : more ≡ words_of_fields rest vs = h.are in
          subst (λ us. Spell fs us words) (sym (append_assoc read (v ∷ []) vs)) (r.forth (v ∷ vs) (record { kinds = (is, h.kinds); are = cc }));
      back = λ never. r.back (λ us h.
          let first = first_of f rest us left h in
          let are : left ≡ f.0 ∷ text_of_value first.v ∷ words_of_fields rest first.vs = first.are in
          never first.vs (record { kinds = first.others; are = cc }));
    }

-- another name stands there
pub misnamed : {fs rest : List (List ℕ × FieldKind)} {words left : List (List ℕ)} {read : List Value} (f : List ℕ × FieldKind)
    → Reading fs words (f ∷ rest) read left → ((word : List ℕ) (more : List (List ℕ)) → left ≢ f.0 ∷ word ∷ more) → (vs : List Value) → Spell fs vs words → ⊥
misnamed {fs} {rest} {words} {left} f r never = r.back (λ us h. never _ _ (first_of f rest us left h).are)

-- the word after it spells nothing
pub misread : {fs rest : List (List ℕ × FieldKind)} {words left : List (List ℕ)} {read : List Value} (more : List (List ℕ)) (word : List ℕ) (f : List ℕ × FieldKind)
    → Reading fs words (f ∷ rest) read left → left ≡ f.0 ∷ word ∷ more → ((v : Value) → IsValueOf f.1 v → word ≢ text_of_value v) → (vs : List Value) → Spell fs vs words → ⊥
misread {fs} {rest} {words} {left} more word f r e never = r.back (λ us h.
    let first = first_of f rest us left h in
    let are : left ≡ f.0 ∷ text_of_value first.v ∷ words_of_fields rest first.vs = first.are in
    never first.v first.is cc)

-- words are left after the last field
pub too_many : {fs : List (List ℕ × FieldKind)} {words left : List (List ℕ)} {read : List Value} → Reading fs words [] read left → left ≢ [] → (vs : List Value) → Spell fs vs words → ⊥
too_many {fs} {words} {left} r some = r.back (λ us h. none us h.kinds h.are)
  where
    none : (us : List Value) → AreValuesOf [] us → left ≡ words_of_fields [] us → ⊥
    none [] kinds e = some e
    none (u ∷ us) kinds e = kinds

pub all_read : {fs : List (List ℕ × FieldKind)} {words left : List (List ℕ)} {read : List Value} → Reading fs words [] read left → left ≡ [] → Spell fs read words
all_read {fs} {words} {left} {read} r none = subst (λ vs. Spell fs vs words) (append-nil read) (r.forth [] (record { kinds = tt; are = none }))

-- ---- fields as code has them

next_field : (xs : List (Bor (List ℕ) × FieldKind)) (i : ℕ) (x : Bor (List ℕ) × FieldKind) → i < length xs → drop i (map said xs) ≡ said (get_or xs i x) ∷ drop (i + 1) (map said xs)
next_field xs i x inside =
    drop-map said i xs ∙ at_drop_more (map said) xs i x inside ∙ ap (λ ys. said (get_or xs i x) ∷ ys) (sym (drop-map said (i + 1) xs))

no_field : (xs : List (Bor (List ℕ) × FieldKind)) (i : ℕ) → length xs ≤ i → drop i (map said xs) ≡ []
no_field xs i past = drop-map said i xs ∙ at_drop_all (map said) xs i past

pub at_field : {fs : List (List ℕ × FieldKind)} {words left : List (List ℕ)} {read : List Value} (xs : List (Bor (List ℕ) × FieldKind)) (i : ℕ) (x : Bor (List ℕ) × FieldKind) → i < length xs
    → Reading fs words (drop i (map said xs)) read left → Reading fs words (said (get_or xs i x) ∷ drop (i + 1) (map said xs)) read left
at_field {fs} {words} {left} {read} xs i x inside r = subst (λ rest. Reading fs words rest read left) (next_field xs i x inside) r

pub at_end : {fs : List (List ℕ × FieldKind)} {words left : List (List ℕ)} {read : List Value} (xs : List (Bor (List ℕ) × FieldKind)) (i : ℕ) → length xs ≤ i
    → Reading fs words (drop i (map said xs)) read left → Reading fs words [] read left
at_end {fs} {words} {left} {read} xs i past r = subst (λ rest. Reading fs words rest read left) (no_field xs i past) r

-- ---- what a line says

-- it can be stated
pub stated : (s : StatementLine) → IsStatedLine s → AreValuesOf fields (values_of s)
stated s is = (is.loan, (is.upb, (is.next, (is.escrow, (is.suspense, (is.late, (is.escrow_advance, (is.held, (is.pi_advance, tt)))))))))

-- the line that says some values
abbrev pub made : List Value → StatementLine
made vs =
    let at : ℕ → Value = λ i. get_or vs i (value.Number 0) in
    record {
      loan = number_in (at 0);
      upb = cents_in (at 1);
      next = month_in (at 2);
      escrow = cents_in (at 3);
      suspense = cents_in (at 4);
      late = cents_in (at 5);
      escrow_advance = cents_in (at 6);
      held = cents_in (at 7);
      pi_advance = cents_in (at 8);
    }

pub made_again : (vs : List Value) → AreValuesOf fields vs → values_of (made vs) ≡ vs
made_again (value.Number a ∷ value.Cents b ∷ value.Next c ∷ value.Cents d ∷ value.Cents e ∷ value.Cents f ∷ value.Cents g ∷ value.Cents h ∷ value.Cents i ∷ []) are = refl
made_again vs are = absurd (search rules)

-- ---- its text

-- the text of fields with values: something, a field's name, a space and its value, and a space before each other one
pub text_with : List ℕ → List (List ℕ × FieldKind) → List Value → List ℕ
text_with gap (f ∷ fs) (v ∷ vs) = gap ++ (f.0 ++ (32 ∷ (text_of_value v ++ text_with (32 ∷ []) fs vs)))
text_with gap fs vs = []

pub pushed_one : (xs : List (Bor (List ℕ) × FieldKind)) (out gap y : List ℕ) (vs : List Value) (i : ℕ) (x : Bor (List ℕ) × FieldKind) (v : Value) → i < length xs → i < length vs
    → y ≡ ((out ++ gap) ++ (get_or xs i x).0.now) ++ (32 ∷ text_of_value (get_or vs i v))
    → y ++ text_with (32 ∷ []) (drop (i + 1) (map said xs)) (drop (i + 1) vs) ≡ out ++ text_with gap (drop i (map said xs)) (drop i vs)
unfolding text_with
pushed_one xs out gap y vs i x v inside within e =
    let name = (get_or xs i x).0.now in
    let word = 32 ∷ text_of_value (get_or vs i v) in
    let rest = text_with (32 ∷ []) (drop (i + 1) (map said xs)) (drop (i + 1) vs) in
    let next : drop i vs ≡ get_or vs i v ∷ drop (i + 1) vs = at_drop_more (λ ws. ws) vs i v within in
    ap (λ z. z ++ rest) e ∙ append_assoc ((out ++ gap) ++ name) word rest ∙ append_assoc (out ++ gap) name (word ++ rest) ∙ append_assoc out gap (name ++ (word ++ rest))
    ∙ ap (λ fs. out ++ text_with gap fs (get_or vs i v ∷ drop (i + 1) vs)) (sym (next_field xs i x inside)) ∙ ap (λ ws. out ++ text_with gap (drop i (map said xs)) ws) (sym next)

joined_after : (text : List ℕ) (fs : List (List ℕ × FieldKind)) (vs : List Value) → joined (text ∷ words_of_fields fs vs) ≡ text ++ text_with (32 ∷ []) fs vs
unfolding text_with
joined_after text [] vs = sym (append-nil text)
joined_after text (f ∷ fs) [] = sym (append-nil text)
joined_after text (f ∷ fs) (v ∷ vs) = ap (λ r. text ++ (32 ∷ (f.0 ++ (32 ∷ r)))) (joined_after (text_of_value v) fs vs)

joined_fields : (fs : List (List ℕ × FieldKind)) (vs : List Value) → joined (words_of_fields fs vs) ≡ text_with [] fs vs
unfolding text_with
joined_fields [] vs = refl
joined_fields (f ∷ fs) [] = refl
joined_fields (f ∷ fs) (v ∷ vs) = ap (λ r. f.0 ++ (32 ∷ r)) (joined_after (text_of_value v) fs vs)

-- each field is pushed
pub all_pushed : (xs : List (Bor (List ℕ) × FieldKind)) (vs : List Value) (o out gap : List ℕ) (i : ℕ) → length xs ≤ i
    → out ++ text_with gap (drop i (map said xs)) (drop i vs) ≡ o ++ text_with [] (map said xs) vs → out ≡ o ++ joined (words_of_fields (map said xs) vs)
unfolding text_with
all_pushed xs vs o out gap i past e =
    sym (append-nil out) ∙ ap (λ fs. out ++ text_with gap fs (drop i vs)) (sym (no_field xs i past)) ∙ e ∙ ap (λ z. o ++ z) (sym (joined_fields (map said xs) vs))
