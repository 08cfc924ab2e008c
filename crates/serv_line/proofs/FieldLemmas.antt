-- Reading fields one after the other: what is read so far, and where it stops.
use Rattle.std.proofs.Common.{◌≡◌, ◌≢◌, ℕ, zero, suc, ◌+◌, ◌<◌, ◌≤◌, ◌⊎◌, inl, inr, List, [], ◌∷◌, ◌++◌, length, drop, Option, Some, None, true, false, refl, sym, ap, subst, ◌∙◌, arith, append_assoc, length-append, length-drop}
use Rattle.std.specs.Prelude.{map, slice_get, option_map}
use Rattle.std.specs.Borrow.{Bor}
use Rattle.std.proofs.lemmas.Bool.{cases_lt}
use Rattle.std.proofs.lemmas.List.{append-nil, nil_from_length}
use Rattle.std.proofs.lemmas.Option.{slice_get-map, slice_get_past}
use Rattle.std.proofs.Math.Seq.{drop-append_seam}
use Rattle.svc_forms.specs.declared.field.Field.{Field}
use Rattle.svc_forms.specs.declared.value.Value.{Value}
use Rattle.svc_forms.specs.Fields.{kind_of_field, is_optional}
use Rattle.svc_forms.specs.Values.{text_of_value, IsValueOf, FitsField, AreValuesOf}
use Rattle.serv_line.specs.Lines.{joined, words_of, words_left}
use Rattle.serv_line.specs.LineFaults.{FitsWord, IsLeftAt}
use Rattle.serv_line.proofs.WordLemmas.{of_words, split_joined}

-- ---- lists

get_front : {A : Type 0} (xs ys : List A) (k : ℕ) → k < length xs → slice_get (xs ++ ys) k ≡ slice_get xs k
get_front [] ys k h = absurd (omega arith)
get_front (x ∷ xs) ys zero h = refl
get_front (x ∷ xs) ys (suc k) h = get_front xs ys k (omega arith)

get_seam : {A : Type 0} (xs ys : List A) → slice_get (xs ++ ys) (length xs) ≡ slice_get ys 0
get_seam [] ys = refl
get_seam (x ∷ xs) ys = get_seam xs ys

length-texts : (values : List Value) → length (map text_of_value values) ≡ length values
length-texts [] = refl
length-texts (v ∷ values) = let rest = length-texts values in omega arith

texts-push : (values : List Value) (v : Value) → map text_of_value (values ++ v ∷ []) ≡ map text_of_value values ++ text_of_value v ∷ []
texts-push [] v = refl
texts-push (w ∷ values) v = ap (λ (ts : List (List ℕ)). text_of_value w ∷ ts) (texts-push values v)

-- ---- a value that fits has a word that fits

pub fits_text : (f : Option Field) (v : Option Value) → FitsField f v → FitsWord f (option_map text_of_value v)
fits_text None None h = tt
fits_text None (Some v) h = absurd h
fits_text (Some f) None h = h
fits_text (Some f) (Some v) h = record { spelled = v; fits = h; is = refl }

-- ---- what is read so far

-- the first i fields are read: their values, and what is left of the words
pub record Reading (fields : List Field) (words : List (List ℕ)) (i : ℕ) (values : List Value) (rest : Option (Bor (List ℕ))) : Type 0 where
  pub so_far : words ≡ map text_of_value values ++ words_left rest
  pub count : length values ≤ i
  pub all : (words_left rest ≡ []) ⊎ (length values ≡ i)
  pub fit : (k : ℕ) → k < i → FitsField (slice_get fields k) (slice_get values k)

pub start : (fields : List Field) (rest : Option (Bor (List ℕ))) → Reading fields (words_left rest) 0 [] rest
start fields rest = record { so_far = refl; count = omega arith; all = inr refl; fit = λ k h. absurd (omega arith) }

has_word : (text : List ℕ) → words_of text ≢ []
has_word text = of_words (λ ws. ws ≢ []) (λ w ws e. cc) text

-- where words are left, each field so far has a value
in_step : (fields : List Field) (words : List (List ℕ)) (i : ℕ) (values : List Value) (text : Bor (List ℕ)) → Reading fields words i values (Some text) → length values ≡ i
in_step fields words i values text r = elim r.all [ inl none ↦ absurd (has_word text.now none) | inr same ↦ same ]

pub read_one : (fields : List Field) (words : List (List ℕ)) (i : ℕ) (values : List Value) (text : Bor (List ℕ)) (f : Field) (v : Value) (after : Option (Bor (List ℕ)))
    → Reading fields words i values (Some text) → slice_get fields i ≡ Some f → IsValueOf (kind_of_field f) v
    → words_of text.now ≡ text_of_value v ∷ words_left after → Reading fields words (i + 1) (values ++ v ∷ []) after
read_one fields words i values text f v after r e is split =
    let step : length values ≡ i = in_step fields words i values text r in
    let long : length (values ++ v ∷ []) ≡ length values + 1 = omega (arith, length-append values (v ∷ [])) in
    let joined_so : words ≡ (map text_of_value values ++ text_of_value v ∷ []) ++ words_left after =
    r.so_far ∙ ap (λ (ws : List (List ℕ)). map text_of_value values ++ ws) split ∙ sym (append_assoc (map text_of_value values) (text_of_value v ∷ []) (words_left after)) in
    record {
      so_far = joined_so ∙ ap (λ (ws : List (List ℕ)). ws ++ words_left after) (sym (texts-push values v));
      count = omega arith;
      all = inr (omega arith);
      fit = λ k h. elim (cases_lt k i) [
        | inl below ↦
            let inside : k < length values = omega arith in
            let same : slice_get values k ≡ slice_get (values ++ v ∷ []) k = sym (get_front values (v ∷ []) k inside) in
            subst (λ (x : Option Value). FitsField (slice_get fields k) x) same (r.fit k below)
        | inr past ↦
            let at : i ≡ k = omega arith in
            let place : length values ≡ k = omega arith in
            let asked : Some f ≡ slice_get fields k = sym e ∙ ap (slice_get fields) at in
            let got : Some v ≡ slice_get (values ++ v ∷ []) k = sym (get_seam values (v ∷ [])) ∙ ap (slice_get (values ++ v ∷ [])) place in
            subst (λ (g : Option Field). FitsField g (slice_get (values ++ v ∷ []) k)) asked (subst (λ (x : Option Value). FitsField (Some f) x) got is)
      ];
    }

pub left_out : (fields : List Field) (words : List (List ℕ)) (i : ℕ) (values : List Value) (f : Field)
    → Reading fields words i values None → slice_get fields i ≡ Some f → is_optional f ≡ true → Reading fields words (i + 1) values None
left_out fields words i values f r e optional =
    let count = r.count in
    record {
      so_far = r.so_far;
      count = omega arith;
      all = inl refl;
      fit = λ k h. elim (cases_lt k i) [
        | inl below ↦ r.fit k below
        | inr past ↦
            let at : i ≡ k = omega arith in
            let asked : Some f ≡ slice_get fields k = sym e ∙ ap (slice_get fields) at in
            let got : None ≡ slice_get values k = sym (slice_get_past values k (omega arith)) in
            subst (λ (g : Option Field). FitsField g (slice_get values k)) asked (subst (λ (x : Option Value). FitsField (Some f) x) got optional)
      ];
    }

-- ---- where it stops

word_at : (fields : List Field) (words : List (List ℕ)) (i : ℕ) (values : List Value) (rest : Option (Bor (List ℕ))) (k : ℕ)
    → Reading fields words i values rest → k < i → slice_get words k ≡ option_map text_of_value (slice_get values k)
word_at fields words i values rest k r h =
    elim (cases_lt k (length values)) [
      | inl inside ↦
          let front : slice_get (map text_of_value values ++ words_left rest) k ≡ slice_get (map text_of_value values) k =
          get_front (map text_of_value values) (words_left rest) k (omega (arith, length-texts values)) in
          ap (λ (ws : List (List ℕ)). slice_get ws k) r.so_far ∙ front ∙ slice_get-map text_of_value values k
      | inr past ↦
          elim r.all [
            | inl none ↦
                let words_are : words ≡ map text_of_value values = r.so_far ∙ ap (λ (ws : List (List ℕ)). map text_of_value values ++ ws) none ∙ append-nil (map text_of_value values) in
                ap (λ (ws : List (List ℕ)). slice_get ws k) words_are ∙ slice_get-map text_of_value values k
            | inr same ↦ absurd (omega arith)
          ]
    ]

word_fits : (fields : List Field) (words : List (List ℕ)) (i : ℕ) (values : List Value) (rest : Option (Bor (List ℕ))) (k : ℕ)
    → Reading fields words i values rest → k < i → FitsWord (slice_get fields k) (slice_get words k)
word_fits fields words i values rest k r h =
    subst (λ (w : Option (List ℕ)). FitsWord (slice_get fields k) w) (sym (word_at fields words i values rest k r h)) (fits_text (slice_get fields k) (slice_get values k) (r.fit k h))

-- the word that comes next, and what stands from it on
next_at : (fields : List Field) (words : List (List ℕ)) (i : ℕ) (values : List Value) (text : Bor (List ℕ)) → Reading fields words i values (Some text)
    → (slice_get words i ≡ slice_get (words_of text.now) 0) × (drop i words ≡ words_of text.now)
next_at fields words i values text r =
    let step : length (map text_of_value values) ≡ i = length-texts values ∙ in_step fields words i values text r in
    let seam : slice_get (map text_of_value values ++ words_of text.now) i ≡ slice_get (words_of text.now) 0 =
    ap (slice_get (map text_of_value values ++ words_of text.now)) (sym step) ∙ get_seam (map text_of_value values) (words_of text.now) in
    let rest : drop i (map text_of_value values ++ words_of text.now) ≡ words_of text.now =
    ap (λ (n : ℕ). drop n (map text_of_value values ++ words_of text.now)) (sym step) ∙ drop-append_seam (map text_of_value values) (words_of text.now) in
    (ap (λ (ws : List (List ℕ)). slice_get ws i) r.so_far ∙ seam, ap (drop i) r.so_far ∙ rest)

stops : (fields : List Field) (words : List (List ℕ)) (i : ℕ) (values : List Value) (text : Bor (List ℕ)) → Reading fields words i values (Some text)
    → (FitsWord (slice_get fields i) (slice_get (words_of text.now) 0) → ⊥)
    → IsLeftAt (λ k. FitsWord (slice_get fields k) (slice_get words k)) words (length text.now)
stops fields words i values text r not =
    let next = next_at fields words i values text r in
    record {
      place = i;
      first = record {
        before = λ k h. word_fits fields words i values (Some text) k r h;
        here = λ h. not (subst (λ (w : Option (List ℕ)). FitsWord (slice_get fields i) w) next.0 h);
      };
      bytes = ap length (sym (split_joined text.now)) ∙ ap (λ (ws : List (List ℕ)). length (joined ws)) (sym next.1);
    }

pub misread : (fields : List Field) (words : List (List ℕ)) (i : ℕ) (values : List Value) (text : Bor (List ℕ)) (f : Field) → Reading fields words i values (Some text)
    → slice_get fields i ≡ Some f → (FitsWord (Some f) (slice_get (words_of text.now) 0) → ⊥)
    → IsLeftAt (λ k. FitsWord (slice_get fields k) (slice_get words k)) words (length text.now)
misread fields words i values text f r e not =
    stops fields words i values text r (λ h. not (subst (λ (g : Option Field). FitsWord g (slice_get (words_of text.now) 0)) e h))

none_asked : (text : List ℕ) → FitsWord None (slice_get (words_of text) 0) → ⊥
none_asked text = of_words (λ ws. FitsWord None (slice_get ws 0) → ⊥) (λ w ws h. h) text

pub too_many : (fields : List Field) (words : List (List ℕ)) (i : ℕ) (values : List Value) (text : Bor (List ℕ)) → Reading fields words i values (Some text)
    → length fields ≤ i → IsLeftAt (λ k. FitsWord (slice_get fields k) (slice_get words k)) words (length text.now)
too_many fields words i values text r past =
    stops fields words i values text r (λ h. none_asked text.now (subst (λ (g : Option Field). FitsWord g (slice_get (words_of text.now) 0)) (slice_get_past fields i past) h))

-- no word is left where the values end
none_left : (fields : List Field) (words : List (List ℕ)) (i : ℕ) (values : List Value) → Reading fields words i values None
    → (words ≡ map text_of_value values) × (slice_get words i ≡ None) × (drop i words ≡ [])
none_left fields words i values r =
    let are : words ≡ map text_of_value values = r.so_far ∙ append-nil (map text_of_value values) in
    let count = r.count in
    let long : length (map text_of_value values) ≤ i = omega (arith, length-texts values) in
    (are, ap (λ (ws : List (List ℕ)). slice_get ws i) are ∙ slice_get_past (map text_of_value values) i long, ap (drop i) are ∙ nil_from_length (drop i (map text_of_value values)) (omega (arith, length-drop i (map text_of_value values))))

pub missing : (fields : List Field) (words : List (List ℕ)) (i : ℕ) (values : List Value) (f : Field) → Reading fields words i values None
    → slice_get fields i ≡ Some f → is_optional f ≡ false → IsLeftAt (λ k. FitsWord (slice_get fields k) (slice_get words k)) words 0
missing fields words i values f r e required =
    let none = none_left fields words i values r in
    record {
      place = i;
      first = record {
        before = λ k h. word_fits fields words i values None k r h;
        here = λ h.
            let asked : FitsWord (Some f) (slice_get words i) = subst (λ (g : Option Field). FitsWord g (slice_get words i)) e h in
            let optional : is_optional f ≡ true = subst (λ (w : Option (List ℕ)). FitsWord (Some f) w) none.1 asked in
            absurd cc;
      };
      bytes = ap (λ (ws : List (List ℕ)). length (joined ws)) (sym none.2);
    }

pub are_read : (fields : List Field) (words : List (List ℕ)) (i : ℕ) (values : List Value) → Reading fields words i values None → length fields ≤ i
    → AreValuesOf fields values × (words ≡ map text_of_value values)
are_read fields words i values r past =
    let none = none_left fields words i values r in
    let count = r.count in (
      record {
        each = λ k. elim (cases_lt k i) [
          | inl below ↦ r.fit k below
          | inr after ↦
              let no_field : None ≡ slice_get fields k = sym (slice_get_past fields k (omega arith)) in
              let no_value : None ≡ slice_get values k = sym (slice_get_past values k (omega arith)) in
              subst (λ (g : Option Field). FitsField g (slice_get values k)) no_field (subst (λ (x : Option Value). FitsField None x) no_value tt)
        ];
      },
      none.0,
    )
