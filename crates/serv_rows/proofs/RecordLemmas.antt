-- The records of a text: those that a reader reaches are its first ones, or all where nothing is left, and each takes
-- a byte at least.
use Rattle.std.proofs.Common.{◌≡◌, ◌≤◌, ◌<◌, ◌+◌, ℕ, zero, suc, Bool, true, false, List, [], ◌∷◌, ◌++◌, Option, Some, None, length, refl, sym, subst, arith}
use Rattle.std.proofs.lemmas.Bool.{false≢true}
use Rattle.std.specs.Prelude.{if◌then◌else◌, ◌==◌, ◌&&◌}
use Rattle.csv.specs.Machine.{Read, next_record, step, in_field, start_field, start_record, ends_with, after_end, ends_at_end, is_end, is_byte, fields_after, field_after}
use Rattle.csv.specs.Reading.{Reached, records_from, default_config, strip_bom, is_bom}
use Rattle.csv.specs.declared.parser.Config.{Config}
use Rattle.csv.specs.declared.parser.State.{State}
use Rattle.csv.specs.declared.parser.Action.{Action}
use Rattle.csv.specs.declared.parser.Terminator.{Terminator}
use Rattle.csv.specs.declared.parser.Terminator.TheVariants as term
use Rattle.csv.specs.declared.parser.State.TheVariants as st
use Rattle.serv_rows.specs.Files.{records_of}

-- a step that ends a record leaves the reader between records
Rests : State × Action → Type 0
Rests p = is_end p.1 ≡ true → ends_at_end p.0 ≡ false

either : (b : Bool) (p q : State × Action) → Rests p → Rests q → Rests (if b then p else q)
either true p q h k = h
either false p q h k = k

after_end_rests : (t : Terminator) (c : ℕ) → ends_at_end (after_end t c) ≡ false
after_end_rests term.CRLF c = elim (c == 13) as (λ b. ends_at_end (if b then st.AfterCr else st.StartRecord) ≡ false) [ true ↦ refl | false ↦ refl ]
after_end_rests (term.Any t) c = refl

in_field_rests : (cfg : Config) (c : ℕ) → Rests (in_field cfg c)
unfolding Rests
in_field_rests cfg c =
    either (c == cfg.delimiter) _ _ (λ e. absurd (false≢true e))
    (either (ends_with cfg.terminator c) _ _ (λ e. after_end_rests cfg.terminator c) (λ e. absurd (false≢true e)))

start_field_rests : (cfg : Config) (c : ℕ) → Rests (start_field cfg c)
unfolding Rests
start_field_rests cfg c = either (cfg.quoting && (c == cfg.quote)) _ _ (λ e. absurd (false≢true e)) (in_field_rests cfg c)

start_record_rests : (cfg : Config) (c : ℕ) → Rests (start_record cfg c)
unfolding Rests
start_record_rests cfg c =
    either (ends_with cfg.terminator c) _ _ (λ e. absurd (false≢true e))
    (either (is_byte cfg.comment c) _ _ (λ e. absurd (false≢true e)) (start_field_rests cfg c))

step_rests : (cfg : Config) (s : State) (c : ℕ) → Rests (step cfg s c)
unfolding Rests
step_rests cfg st.StartRecord c = start_record_rests cfg c
step_rests cfg st.StartField c = start_field_rests cfg c
step_rests cfg st.InField c = in_field_rests cfg c
step_rests cfg st.InQuoted c =
    either (cfg.quoting && (c == cfg.quote)) _ _ (λ e. absurd (false≢true e))
    (either (cfg.quoting && is_byte cfg.escape c) _ _ (λ e. absurd (false≢true e)) (λ e. absurd (false≢true e)))
step_rests cfg st.InEscape c = λ e. absurd (false≢true e)
step_rests cfg st.AfterQuote c =
    either (cfg.quoting && cfg.double_quote && (c == cfg.quote)) _ _ (λ e. absurd (false≢true e)) (in_field_rests cfg c)
step_rests cfg st.InComment c = either (c == 10) _ _ (λ e. absurd (false≢true e)) (λ e. absurd (false≢true e))
step_rests cfg st.AfterCr c = either (c == 10) _ _ (λ e. absurd (false≢true e)) (start_record_rests cfg c)

-- what is left of a text after a record
record Leaves (q : Read) (n : ℕ) : Type 0 where
  fewer : length q.2 ≤ n
  rests : ends_at_end q.1 ≡ false

at_end : (b : Bool) (x q : Read) → (if b then Some x else None) ≡ Some q → ends_at_end x.1 ≡ false → length x.2 ≤ 0 → Leaves q 0
at_end true x q e r l = let is : x ≡ q = cc in subst (λ y. Leaves y 0) is (record { fewer = l; rests = r })
at_end false x q e r l = absurd cc

at_byte : (b : Bool) (x q : Read) (o : Option Read) (n : ℕ) → (if b then Some x else o) ≡ Some q → length x.2 ≤ n
    → (b ≡ true → ends_at_end x.1 ≡ false) → (o ≡ Some q → Leaves q n) → Leaves q n
at_byte true x q o n e l r more = let is : x ≡ q = cc in subst (λ y. Leaves y n) is (record { fewer = l; rests = r refl })
at_byte false x q o n e l r more = more e

next_leaves : (cfg : Config) (s : State) (f : List (List ℕ)) (p : List ℕ) (xs : List ℕ) (q : Read) → next_record cfg s f p xs ≡ Some q → Leaves q (length xs)
unfolding next_record Rests
next_leaves cfg s f p [] q e = at_end (ends_at_end s) _ q e refl (omega arith)
next_leaves cfg s f p (c ∷ rest) q e =
    let a = step cfg s c in
    let l = at_byte (is_end a.1) (fields_after a.1 f p, a.0, rest) q _ (length rest) e (omega arith) (step_rests cfg s c)
    (next_leaves cfg a.0 (fields_after a.1 f p) (field_after a.1 c p) rest q)
    in
    record { fewer = let x = l.fewer in omega arith; rests = l.rests }

no_end : (b : Bool) (x q : Read) → b ≡ false → (if b then Some x else None) ≡ Some q → ⊥
no_end true x q r e = absurd cc
no_end false x q r e = absurd cc

-- a record that is read from between two others takes a byte at least
record_leaves : (cfg : Config) (s : State) (xs : List ℕ) (q : Read) → ends_at_end s ≡ false → next_record cfg s [] [] xs ≡ Some q
    → (length q.2 < length xs) × (ends_at_end q.1 ≡ false)
unfolding next_record Rests
record_leaves cfg s [] q r e = absurd (no_end (ends_at_end s) _ q r e)
record_leaves cfg s (c ∷ rest) q r e =
    let a = step cfg s c in
    let l = at_byte (is_end a.1) (fields_after a.1 [] [], a.0, rest) q _ (length rest) e (omega arith) (step_rests cfg s c)
    (next_leaves cfg a.0 (fields_after a.1 [] []) (field_after a.1 c []) rest q)
    in
    (let x = l.fewer in omega arith, l.rests)

-- there are no more records than bytes
few_records : (cfg : Config) (s s2 : State) (xs ys : List ℕ) (rows : List (List (List ℕ))) → ends_at_end s ≡ false → Reached cfg s xs rows s2 ys
    → length rows + length ys ≤ length xs
unfolding Reached
few_records cfg s s2 xs ys [] r h = let e = h.1 in rw e (omega arith)
few_records cfg s s2 xs ys (row ∷ rows) r h =
    let l = record_leaves cfg s xs h.0 r h.1 in
    let more = few_records cfg h.0.1 s2 h.0.2 ys rows l.1 h.3 in
    let fewer = l.0 in
    omega arith

-- what was reached is all, where nothing is left
all_records : (cfg : Config) (n : ℕ) (s s2 : State) (xs ys : List ℕ) (rows : List (List (List ℕ))) → Reached cfg s xs rows s2 ys
    → next_record cfg s2 [] [] ys ≡ None → length rows ≤ n → records_from cfg n s xs ≡ rows
unfolding Reached records_from
all_records cfg zero s s2 xs ys [] h e l = refl
all_records cfg (suc n) s s2 xs ys [] h e l = rw (h.0, h.1, e) refl
all_records cfg zero s s2 xs ys (row ∷ rows) h e l = absurd (omega arith)
all_records cfg (suc n) s s2 xs ys (row ∷ rows) h e l =
    let rest : records_from cfg n h.0.1 h.0.2 ≡ rows = all_records cfg n h.0.1 s2 h.0.2 ys rows h.3 e (omega arith) in
    rw (h.1, h.2, rest) refl

-- ---- the records of a file

without_bom : (bytes : List ℕ) → length (strip_bom bytes) ≤ length bytes
unfolding strip_bom
without_bom [] = omega arith
without_bom (a ∷ []) = omega arith
without_bom (a ∷ b ∷ []) = omega arith
without_bom (a ∷ b ∷ c ∷ rest) =
    elim (is_bom a b c) as (λ x. length (if x then rest else a ∷ b ∷ c ∷ rest) ≤ length (a ∷ b ∷ c ∷ rest)) [ true ↦ omega arith | false ↦ omega arith ]

-- a file has no more records than bytes
pub few_rows : (bytes ys : List ℕ) (rows : List (List (List ℕ))) (s : State) → Reached default_config st.StartRecord (strip_bom bytes) rows s ys
    → length rows ≤ length bytes
few_rows bytes ys rows s h =
    let few = few_records default_config st.StartRecord s (strip_bom bytes) ys rows refl h in
    let less = without_bom bytes in
    omega arith

-- what was read of a file are its records, where no more can be read
pub all_rows : (bytes ys : List ℕ) (rows : List (List (List ℕ))) (s : State) → Reached default_config st.StartRecord (strip_bom bytes) rows s ys
    → next_record default_config s [] [] ys ≡ None → rows ≡ records_of bytes
all_rows bytes ys rows s h e =
    let few = few_records default_config st.StartRecord s (strip_bom bytes) ys rows refl h in
    sym (all_records default_config _ st.StartRecord s (strip_bom bytes) ys rows h e (omega arith))

-- what was reached are the first records of a text
begin_from : (cfg : Config) (n : ℕ) (s s2 : State) (xs ys : List ℕ) (rows : List (List (List ℕ))) → Reached cfg s xs rows s2 ys → length rows ≤ n
    → (after : List (List (List ℕ))) × (records_from cfg n s xs ≡ rows ++ after)
unfolding Reached records_from
begin_from cfg n s s2 xs ys [] h l = (records_from cfg n s xs, refl)
begin_from cfg zero s s2 xs ys (row ∷ rows) h l = absurd (omega arith)
begin_from cfg (suc n) s s2 xs ys (row ∷ rows) h l =
    let rest = begin_from cfg n h.0.1 s2 h.0.2 ys rows h.3 (omega arith) in
    let same : records_from cfg n h.0.1 h.0.2 ≡ rows ++ rest.0 = rest.1 in
    (rest.0, rw (h.1, h.2, same) refl)

-- what was read of a file are its first records
pub rows_begin : (bytes ys : List ℕ) (rows : List (List (List ℕ))) (s : State) → Reached default_config st.StartRecord (strip_bom bytes) rows s ys
    → (after : List (List (List ℕ))) × (records_of bytes ≡ rows ++ after)
rows_begin bytes ys rows s h =
    let few = few_records default_config st.StartRecord s (strip_bom bytes) ys rows refl h in
    begin_from default_config _ st.StartRecord s (strip_bom bytes) ys rows h (omega arith)
