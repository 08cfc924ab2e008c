-- What the rows of a file say, row by row.
use Rattle.std.proofs.Common.{◌≡◌, ◌+◌, ℕ, ℤ, suc, Bool, true, false, List, [], ◌∷◌, ◌++◌, Option, Some, None, cond, length, refl, sym, ap, ◌∙◌, subst, arith, Vec, Global}
use Rattle.std.specs.Prelude.{◌≤◌, ◌*◌, ◌^◌, Result, Ok, Err, IfSome, pos, ◌<ℤ◌, nat_le, ◌&&◌, if◌then◌else◌, codes}
use Rattle.std.specs.List.{All, find, range_with_len}
use Rattle.std.specs.Option.{option_map}
use Rattle.std.specs.Str.{bytes_eq}
use Rattle.std.proofs.lemmas.Bool.{false≢true}
use Rattle.std.proofs.lemmas.Bool.Decides.{nat_tests}
use Rattle.std.proofs.lemmas.Int.{ints}
use Rattle.std.proofs.lemmas.Slice.Eq.{bytes_eq-Decides}
use Rattle.std.proofs.lemmas.List.Elements.{All-nil, All-cons}
use Rattle.svc_base.specs.Calendar.{IsReadDay}
use Rattle.svc_base.specs.Text.{text_of_cents, text_of_day}
use Rattle.serv_rows.specs.Files.{records_of, BeginsWith, IsFile}
use Rattle.pmi_track.specs.declared.insured_loan.InsuredLoan.{InsuredLoan}
use Rattle.pmi_track.specs.declared.insured_loan.InsuredRow.{InsuredRow}
use Rattle.pmi_track.specs.Rows.{first_below, number_in, value_in, is_read_day, day_in, asked_in, insured_by, insured_of, row_by, row_of, rows_from, header, is_header, rows_after, insured_in, IsInsured, IsRead}
use Rattle.pmi_track.proofs.RowLemmas.{both_true, kept_day}

-- ---- the values that rows have

find_passes : (p : ℕ → Bool) (xs : List ℕ) (x : ℕ) → find p xs ≡ Some x → p x ≡ true
find_passes p [] x e = absurd (cc)
find_passes p (y ∷ ys) x e =
    elim (p y) as (λ v. p y ≡ v → cond v (Some y) (find p ys) ≡ Some x → p x ≡ true) [
      | true ↦ λ here is. let same : y ≡ x = cc in ap p (sym same) ∙ here
      | false ↦ λ here is. find_passes p ys x is
    ] refl e

below_passes : (n : ℕ) (p : ℕ → Bool) (x : ℕ) → first_below n p ≡ Some x → p x ≡ true
unfolding first_below
below_passes n p x e = find_passes p (range_with_len 0 n) x e

mapped_some : {A B : Type 0} (f : A → B) (o : Option A) (b : B) → option_map f o ≡ Some b → (a : A) × (o ≡ Some a) × (f a ≡ b)
mapped_some f None b e = absurd (cc)
mapped_some f (Some a) b e = (a, refl, cc)

value_above : (text : List ℕ) (z : ℤ) → value_in text ≡ Some z → pos 0 <ℤ z
value_above text z e =
    let m = mapped_some pos (first_below (10 ^ 13) (λ n. nat_le 1 n && bytes_eq text (text_of_cents n))) z e in
    let b = both_true (nat_le 1 m.0) (bytes_eq text (text_of_cents m.0)) (below_passes (10 ^ 13) (λ n. nat_le 1 n && bytes_eq text (text_of_cents n)) m.0 m.1) in
    let low : 1 ≤ m.0 = (let h = b.0 in grind (arith, nat_tests)) in
    let is : pos m.0 ≡ z = m.2 in
    omega (arith, ints)

day_named : (text : List ℕ) (d : ℕ) → day_in text ≡ Some d → IsReadDay d
day_named text d e =
    kept_day d (both_true (is_read_day d) (bytes_eq text (text_of_day d)) (below_passes (31 * (12 * 2100)) (λ n. is_read_day n && bytes_eq text (text_of_day n)) d e)).0

asked_named : (text : List ℕ) (o : Option ℕ) → asked_in text ≡ Some o → IfSome o IsReadDay
asked_named [] o e = let none : None ≡ o = cc in subst (λ x. IfSome x IsReadDay) none tt
asked_named (b ∷ bs) o e =
    let m = mapped_some Some (day_in (b ∷ bs)) o e in
    subst (λ x. IfSome x IsReadDay) m.2 (day_named (b ∷ bs) m.0 m.1)

by_read : (loan : Option ℕ) (value : Option ℤ) (line : Option ℕ) (asked : Option (Option ℕ)) (i : InsuredLoan) → insured_by loan value line asked ≡ Ok i
    → (value ≡ Some i.value) × (asked ≡ Some i.asked)
by_read None value line asked i e = absurd (cc)
by_read (Some loan) None line asked i e = absurd (cc)
by_read (Some loan) (Some value) None asked i e = absurd (cc)
by_read (Some loan) (Some value) (Some line) None i e = absurd (cc)
by_read (Some loan) (Some value) (Some line) (Some asked) i e =
    let is : record { loan = loan; value = value; line = line; asked = asked } ≡ i = cc in
    (ap (λ (x : InsuredLoan). Some x.value) is, ap (λ (x : InsuredLoan). Some x.asked) is)

-- a loan that is read has a value above 0, and a day that requests may name
insured_read : (fields : List (List ℕ)) (i : InsuredLoan) → insured_of fields ≡ Ok i → IsInsured i
insured_read (loan ∷ value ∷ line ∷ asked ∷ []) i e =
    let h = by_read (number_in loan) (value_in value) (number_in line) (asked_in asked) i e in
    record { value = value_above value i.value h.0; asked = asked_named asked i.asked h.1 }
insured_read [] i e = absurd (cc)
insured_read (a ∷ []) i e = absurd (cc)
insured_read (a ∷ b ∷ []) i e = absurd (cc)
insured_read (a ∷ b ∷ c ∷ []) i e = absurd (cc)
insured_read (a ∷ b ∷ c ∷ d ∷ x ∷ more) i e = absurd (cc)

row_read : (number : ℕ) (fields : List (List ℕ)) → IsRead (row_of number fields)
row_read number fields = by (insured_of fields) (insured_read fields) where
  by : (r : Result InsuredLoan ℕ) → ((i : InsuredLoan) → r ≡ Ok i → IsInsured i) → IsRead (row_by number r)
  by (Ok i) h = h i refl
  by (Err column) h = tt

rows_read : (number : ℕ) (rows : List (List (List ℕ))) → All IsRead (rows_from number rows)
rows_read number [] = All-nil IsRead
rows_read number (fields ∷ more) = All-cons IsRead (row_of number fields) (rows_from (suc number) more) (row_read number fields) (rows_read (suc number) more)

-- ---- one row more

rows_push : (n : ℕ) (rows : List (List (List ℕ))) (fields : List (List ℕ)) → rows_from n (rows ++ fields ∷ []) ≡ rows_from n rows ++ row_of (n + length rows) fields ∷ []
rows_push n [] fields = let e : n ≡ n + 0 = omega arith in ap (λ k. row_of k fields ∷ []) e
rows_push n (r ∷ rows) fields =
    let e : suc n + length rows ≡ n + suc (length rows) = omega arith in
    ap (λ xs. row_of n r ∷ xs) (rows_push (suc n) rows fields ∙ ap (λ k. rows_from (suc n) rows ++ row_of k fields ∷ []) e)

-- what rows say with one row more
pub said_more : (number : ℕ) (fields : List (List ℕ)) (old new : List InsuredRow) → new ≡ old ++ row_of number fields ∷ []
    → (before : List (List (List ℕ))) → number ≡ length before + 2 → old ≡ rows_from 2 before → new ≡ rows_from 2 (before ++ fields ∷ [])
said_more number fields old new h before e said =
    let count : number ≡ 2 + length before = omega arith in
    h ∙ ap (λ xs. xs ++ row_of number fields ∷ []) said ∙ ap (λ k. rows_from 2 before ++ row_of k fields ∷ []) count ∙ sym (rows_push 2 before fields)

-- ---- files

-- what a file says, of what is read of it
pub insured_told : (bytes : List ℕ) (v : Vec InsuredRow Global) → IsFile header (λ records (rows : Vec InsuredRow Global). rows.items ≡ rows_from 2 records) bytes v → insured_in bytes ≡ Some v.items
unfolding insured_in
insured_told bytes v h = ap rows_after h.begins ∙ ap Some (sym h.rows_say)

pub rows_told : (bytes : List ℕ) (v : Vec InsuredRow Global) → IsFile header (λ records (rows : Vec InsuredRow Global). rows.items ≡ rows_from 2 records) bytes v → All IsRead v.items
rows_told bytes v h = subst (All IsRead) (sym h.rows_say) (rows_read 2 h.rows)

four_same : (a b c d : List ℕ) → a ≡ codes "loan" → b ≡ codes "value" → c ≡ codes "line" → d ≡ codes "asked" → a ∷ b ∷ c ∷ d ∷ [] ≡ header
four_same a b c d p q r s = rw (p, q, r, s) refl

header_named : (fields : List (List ℕ)) → is_header fields ≡ true → fields ≡ header
header_named (a ∷ b ∷ c ∷ d ∷ []) e =
    let p = both_true (bytes_eq a (codes "loan")) (bytes_eq b (codes "value") && (bytes_eq c (codes "line") && bytes_eq d (codes "asked"))) e in
    let q = both_true (bytes_eq b (codes "value")) (bytes_eq c (codes "line") && bytes_eq d (codes "asked")) p.1 in
    let r = both_true (bytes_eq c (codes "line")) (bytes_eq d (codes "asked")) q.1 in
    four_same a b c d ((bytes_eq-Decides a (codes "loan")).0 p.0) ((bytes_eq-Decides b (codes "value")).0 q.0)
    ((bytes_eq-Decides c (codes "line")).0 r.0) ((bytes_eq-Decides d (codes "asked")).0 r.1)
header_named [] e = absurd (false≢true e)
header_named (a ∷ []) e = absurd (false≢true e)
header_named (a ∷ b ∷ []) e = absurd (false≢true e)
header_named (a ∷ b ∷ c ∷ []) e = absurd (false≢true e)
header_named (a ∷ b ∷ c ∷ d ∷ x ∷ more) e = absurd (false≢true e)

-- a file without the header says nothing
pub headless : (bytes : List ℕ) → (BeginsWith header bytes → ⊥) → insured_in bytes ≡ None
unfolding insured_in
headless bytes none = by (records_of bytes) (λ rows e. none (record { rows = rows; begins = e })) where
  by : (records : List (List (List ℕ))) → ((rows : List (List (List ℕ))) → records ≡ header ∷ rows → ⊥) → rows_after records ≡ None
  by [] h = refl
  by (first ∷ rows) h = elim (is_header first) as (λ b. is_header first ≡ b → (if b then Some (rows_from 2 rows) else None) ≡ None) [
    | true ↦ λ e. absurd (h rows (ap (λ x. x ∷ rows) (header_named first e)))
    | false ↦ λ e. refl
  ] refl
