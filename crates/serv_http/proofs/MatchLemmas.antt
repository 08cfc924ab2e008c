-- What the router's search finds, where each part in braces is a whole segment: a row that fits the
-- path, or none where none does.
use Rattle.std.proofs.Common.{◌≡◌, ℕ, zero, suc, ◌-◌, ◌<◌, ◌≤◌, ◌⊎◌, inl, inr, Bool, true, false, not, ◌&&◌, cond, eqb, ltb, List, [], ◌∷◌, ◌++◌, length, drop, refl, sym, ap, ◌∙◌, subst, arith, length-append, Option, Some, None}
use Rattle.std.specs.Prelude.{All, nat_eq}
use Rattle.std.specs.Cmp.Lexicographic.{pointwise}
use Rattle.std.proofs.lemmas.Bool.{cases_Bool, both_ways, false≢true, and_parts, and_from, and_left, and_right, eqb-true, eq-eqb, ne_eqb, lt-ltb}
use Rattle.std.proofs.lemmas.List.{drop_at, drop_all}
use Rattle.std.proofs.lemmas.List.Elements.{All-nil, All-cons, All-drop, All-head}
use Rattle.matchit.specs.Level.{IsText}
use Rattle.matchit.specs.Rows.{RowsOf}
use Rattle.matchit.specs.Seek.{segment, has_slash, cuts, better, own, step, or_else, longest_from, longest_suffix, with_suffix, param_step, seek}

-- the bytes up to the first slash, and those from it on
abbrev pub part_of : List ℕ → List ℕ
part_of [] = []
part_of (b ∷ p) = cond (eqb b 47) [] (b ∷ part_of p)

abbrev pub rest_of : List ℕ → List ℕ
rest_of [] = []
rest_of (b ∷ p) = cond (eqb b 47) (b ∷ p) (rest_of p)

-- the path has the form of these tokens, where 256 is a part
abbrev pub fits : List ℕ → List ℕ → Bool
fits [] [] = true
fits [] (b ∷ p) = false
fits (x ∷ t) [] = false
fits (x ∷ t) (b ∷ p) = cond (eqb x 256) (not (eqb b 47) && fits t (rest_of (b ∷ p))) (eqb x b && fits t p)

-- the end of a segment
abbrev pub at_end : List ℕ → Bool
at_end [] = true
at_end (y ∷ t) = eqb y 47

-- each part is a whole segment
abbrev pub is_simple : List ℕ → Bool
is_simple [] = true
is_simple (x ∷ t) = cond (eqb x 256) (at_end t) (ltb x 256) && is_simple t

abbrev IsSlashless : List ℕ → Type 0
IsSlashless p = All (λ b. eqb b 47 ≡ false) p

-- a path without a slash
record IsBare (p : List ℕ) : Type 0 where
  rest : rest_of p ≡ []
  seg : segment p ≡ p
  none : has_slash p ≡ false
  all : IsSlashless p

-- a path with one
record IsSlashed (p : List ℕ) : Type 0 where
  more : List ℕ
  rest : rest_of p ≡ 47 ∷ more
  seg : segment p ≡ part_of p ++ 47 ∷ []
  some : has_slash p ≡ true
  whole : p ≡ part_of p ++ 47 ∷ more

kind : (p : List ℕ) → IsBare p ⊎ IsSlashed p
kind [] = inl (record { rest = refl; seg = refl; none = refl; all = All-nil (λ b. eqb b 47 ≡ false) })
kind (b ∷ p) = by (eqb b 47) refl (kind p)
  where
    by : (v : Bool) → eqb b 47 ≡ v → IsBare p ⊎ IsSlashed p → IsBare (b ∷ p) ⊎ IsSlashed (b ∷ p)
    by true e y =
        let same : b ≡ 47 = eqb-true b 47 e in
        inr (record {
          more = p;
          rest = rw (e, same) refl;
          seg = rw (e, same) refl;
          some = rw e refl;
          whole = rw (e, same) refl;
        })
    by false e y = elim y [
      | inl x ↦ inl (record {
        rest = rw e x.rest;
        seg = rw e (ap (λ (t : List ℕ). b ∷ t) x.seg);
        none = rw e x.none;
        all = All-cons (λ c. eqb c 47 ≡ false) b p e x.all;
      })
      | inr x ↦ inr (record {
        more = x.more;
        rest = rw e x.rest;
        seg = rw e (ap (λ (t : List ℕ). b ∷ t) x.seg);
        some = rw e x.some;
        whole = rw e (ap (λ (t : List ℕ). b ∷ t) x.whole);
      })
    ]

rest-text : (p : List ℕ) → IsText p → IsText (rest_of p)
rest-text [] x = x
rest-text (b ∷ p) x = elim (eqb b 47) as (λ v. IsText (cond v (b ∷ p) (rest_of p))) [
  | true ↦ x
  | false ↦ rest-text p x.1
]

-- the suffix that stands for the end of a segment cuts a path where a part stands before it
no-cut : (d : List ℕ) → IsSlashless d → pointwise nat_eq (47 ∷ []) d ≡ false
no-cut [] all = refl
no-cut (y ∷ d) all =
    let other : eqb 47 y ≡ false = ne_eqb 47 y (λ e. both_ways (eqb y 47) (All-head (λ b. eqb b 47 ≡ false) y d all) (eq-eqb y 47 (sym e))) in
    and_left (eqb 47 y) (pointwise nat_eq [] d) other

bare-cuts : (p : List ℕ) → IsBare p → cuts (segment p) (47 ∷ []) ≡ false
bare-cuts p x =
    ap (λ (t : List ℕ). cuts t (47 ∷ [])) x.seg
    ∙ and_right (ltb 1 (length p)) (pointwise nat_eq (47 ∷ []) (drop (length p - 1) p))
    (no-cut (drop (length p - 1) p) (All-drop (λ b. eqb b 47 ≡ false) (length p - 1) p x.all))

slashed-cuts : (p : List ℕ) → IsSlashed p → 0 < length (part_of p) → cuts (segment p) (47 ∷ []) ≡ true
slashed-cuts p x some =
    let size = length-append (part_of p) (47 ∷ []) in
    let last : drop (length (part_of p ++ 47 ∷ []) - 1) (part_of p ++ 47 ∷ []) ≡ 47 ∷ [] =
    drop_at (part_of p) (47 ∷ []) (length (part_of p ++ 47 ∷ []) - 1) (omega (arith, size)) in
    ap (λ (t : List ℕ). cuts t (47 ∷ [])) x.seg
    ∙ and_from (ltb 1 (length (part_of p ++ 47 ∷ []))) _ (lt-ltb 1 (length (part_of p ++ 47 ∷ [])) (omega (arith, size)))
    (ap (pointwise nat_eq (47 ∷ [])) last)

seg-end : (t : List ℕ) → at_end t ≡ true → (t ≡ []) ⊎ (segment t ≡ 47 ∷ [])
seg-end [] e = inl refl
seg-end (y ∷ u) e = inr (let q : y ≡ 47 = eqb-true y 47 e in rw (e, q) refl)

on-better : (seg t : List ℕ) → (t ≡ []) ⊎ (segment t ≡ 47 ∷ []) → better seg (47 ∷ []) (segment t) ≡ 47 ∷ []
on-better seg t (inl e) = ap (λ (u : List ℕ). better seg (47 ∷ []) (segment u)) e
on-better seg t (inr e) = ap (better seg (47 ∷ [])) e

none-better : (seg t : List ℕ) → (t ≡ []) ⊎ (segment t ≡ 47 ∷ []) → cuts seg (47 ∷ []) ≡ false → better seg [] (segment t) ≡ []
none-better seg t (inl e) c = ap (λ (u : List ℕ). better seg [] (segment u)) e
none-better seg t (inr e) c = ap (better seg []) e ∙ rw c refl

-- a part, and what comes after it
pub part-same : (b : ℕ) (path t : List ℕ) → eqb b 47 ≡ false → fits (256 ∷ t) (b ∷ path) ≡ fits t (rest_of (b ∷ path))
part-same b path t e = ap (λ (v : Bool). not v && fits t (rest_of (b ∷ path))) e

part-of-more : (b : ℕ) (path : List ℕ) → eqb b 47 ≡ false → part_of (b ∷ path) ≡ b ∷ part_of path
part-of-more b path e = rw e refl

-- a token of a row that is simple
simple-parts : (x : ℕ) (t : List ℕ) → is_simple (x ∷ t) ≡ true → (cond (eqb x 256) (at_end t) (ltb x 256) ≡ true) × (is_simple t ≡ true)
simple-parts x t e = and_parts (cond (eqb x 256) (at_end t) (ltb x 256)) (is_simple t) e

module _ {K : Type 0} where
  -- these tokens, with this key, are a row
  abbrev pub HasRow : List ℕ → K → RowsOf K → Type 0
  HasRow t k [] = ⊥
  HasRow t k ((u, l) ∷ rows) = ((u ≡ t) × (l ≡ k)) ⊎ HasRow t k rows

  -- the key of a row that passes, or none where none does
  abbrev pub Answers : (List ℕ → Bool) → RowsOf K → Option K → Type 0
  Answers test rows None = (t : List ℕ) (k : K) → HasRow t k rows → test t ≡ false
  Answers test rows (Some k) = (t : List ℕ) × HasRow t k rows × (test t ≡ true)

  abbrev pub AreSimple : RowsOf K → Type 0
  AreSimple rows = (t : List ℕ) (k : K) → HasRow t k rows → is_simple t ≡ true

  abbrev AtEnds : RowsOf K → Type 0
  AtEnds rows = (t : List ℕ) (k : K) → HasRow t k rows → at_end t ≡ true

  own-some : (rows : RowsOf K) (k : K) → own rows ≡ Some k → HasRow [] k rows
  own-some [] k e = absurd (cc)
  own-some (([], l) ∷ rows) k e = inl (refl, let q : l ≡ k = cc in q)
  own-some ((x ∷ u, l) ∷ rows) k e = inr (own-some rows k e)

  own-none : (rows : RowsOf K) (k : K) → own rows ≡ None → HasRow [] k rows → ⊥
  own-none [] k e h = h
  own-none (([], l) ∷ rows) k e h = absurd (cc)
  own-none ((x ∷ u, l) ∷ rows) k e h = elim h [
    | inl q ↦ absurd (let w = q.0 in cc)
    | inr h ↦ own-none rows k e h
  ]

  has-step : (b : ℕ) (rows : RowsOf K) (t : List ℕ) (k : K) → HasRow (b ∷ t) k rows → HasRow t k (step b rows)
  has-step b [] t k h = h
  has-step b (([], l) ∷ rows) t k h = elim h [
    | inl q ↦ absurd (let w = q.0 in cc)
    | inr h ↦ has-step b rows t k h
  ]
  has-step b ((x ∷ u, l) ∷ rows) t k h = by (eqb x b) refl h (λ m. has-step b rows t k m)
    where
      by : (v : Bool) → eqb x b ≡ v → HasRow (b ∷ t) k ((x ∷ u, l) ∷ rows) → (HasRow (b ∷ t) k rows → HasRow t k (step b rows))
          → HasRow t k (cond v ((u, l) ∷ step b rows) (step b rows))
      by true e (inl q) more = inl (let w = q.0 in let y : u ≡ t = cc in y, q.1)
      by true e (inr m) more = inr (more m)
      by false e (inl q) more = absurd (let w = q.0 in let y : x ≡ b = cc in both_ways (eqb x b) e (eq-eqb x b y))
      by false e (inr m) more = more m

  step-has : (b : ℕ) (rows : RowsOf K) (t : List ℕ) (k : K) → HasRow t k (step b rows) → HasRow (b ∷ t) k rows
  step-has b [] t k h = h
  step-has b (([], l) ∷ rows) t k h = inr (step-has b rows t k h)
  step-has b ((x ∷ u, l) ∷ rows) t k h = by (eqb x b) refl h (λ m. step-has b rows t k m)
    where
      by : (v : Bool) → eqb x b ≡ v → HasRow t k (cond v ((u, l) ∷ step b rows) (step b rows))
          → (HasRow t k (step b rows) → HasRow (b ∷ t) k rows) → HasRow (b ∷ t) k ((x ∷ u, l) ∷ rows)
      by true e (inl q) more = inl (let y : x ≡ b = eqb-true x b e in let w = q.0 in let z : x ∷ u ≡ b ∷ t = cc in z, q.1)
      by true e (inr m) more = inr (more m)
      by false e m more = inr (more m)

  -- the rows whose tokens go on with the end of a segment
  suffix-has : (rows : RowsOf K) (t : List ℕ) (k : K) → HasRow t k (with_suffix (47 ∷ []) rows) → HasRow t k rows
  suffix-has [] t k h = h
  suffix-has ((u, l) ∷ rows) t k h = by (pointwise nat_eq (segment u) (47 ∷ [])) h (λ m. suffix-has rows t k m)
    where
      by : (v : Bool) → HasRow t k (cond v ((u, l) ∷ with_suffix (47 ∷ []) rows) (with_suffix (47 ∷ []) rows))
          → (HasRow t k (with_suffix (47 ∷ []) rows) → HasRow t k rows) → HasRow t k ((u, l) ∷ rows)
      by true (inl q) more = inl q
      by true (inr m) more = inr (more m)
      by false m more = inr (more m)

  has-suffix : (rows : RowsOf K) (t : List ℕ) (k : K) → HasRow t k rows → segment t ≡ 47 ∷ [] → HasRow t k (with_suffix (47 ∷ []) rows)
  has-suffix [] t k h e = h
  has-suffix ((u, l) ∷ rows) t k h e = elim h [
    | inl q ↦
        let same : pointwise nat_eq (segment u) (47 ∷ []) ≡ true = ap (λ (s : List ℕ). pointwise nat_eq s (47 ∷ [])) (ap segment q.0 ∙ e) in
        rw same (inl q)
    | inr m ↦ by (pointwise nat_eq (segment u) (47 ∷ [])) (has-suffix rows t k m e)
  ]
    where
      by : (v : Bool) → HasRow t k (with_suffix (47 ∷ []) rows)
          → HasRow t k (cond v ((u, l) ∷ with_suffix (47 ∷ []) rows) (with_suffix (47 ∷ []) rows))
      by true m = inr m
      by false m = m

  longest-on : (seg : List ℕ) (rows : RowsOf K) → AtEnds rows → longest_from seg (47 ∷ []) rows ≡ 47 ∷ []
  longest-on seg [] a = refl
  longest-on seg ((t, l) ∷ rows) a =
      ap (λ (best : List ℕ). longest_from seg best rows) (on-better seg t (seg-end t (a t l (inl (refl, refl)))))
      ∙ longest-on seg rows (λ u k h. a u k (inr h))

  longest-none : (seg : List ℕ) (rows : RowsOf K) → cuts seg (47 ∷ []) ≡ false → AtEnds rows → longest_from seg [] rows ≡ []
  longest-none seg [] c a = refl
  longest-none seg ((t, l) ∷ rows) c a =
      ap (λ (best : List ℕ). longest_from seg best rows) (none-better seg t (seg-end t (a t l (inl (refl, refl)))) c)
      ∙ longest-none seg rows c (λ u k h. a u k (inr h))

  longest-some : (seg : List ℕ) (rows : RowsOf K) → cuts seg (47 ∷ []) ≡ true → AtEnds rows
      → (longest_from seg [] rows ≡ 47 ∷ []) ⊎ ((longest_from seg [] rows ≡ []) × ((t : List ℕ) (k : K) → HasRow t k rows → t ≡ []))
  longest-some seg [] c a = inr (refl, λ t k h. absurd h)
  longest-some seg ((t, l) ∷ rows) c a = elim (seg-end t (a t l (inl (refl, refl)))) [
    | inl e ↦
        let same : longest_from seg (better seg [] (segment t)) rows ≡ longest_from seg [] rows =
        ap (λ (u : List ℕ). longest_from seg (better seg [] (segment u)) rows) e in
        elim (longest-some seg rows c (λ u k h. a u k (inr h))) [
          | inl f ↦ inl (same ∙ f)
          | inr f ↦ inr (same ∙ f.0, λ u k h. elim h [ inl q ↦ sym q.0 ∙ e | inr h ↦ f.1 u k h ])
        ]
    | inr e ↦
        let on : better seg [] (47 ∷ []) ≡ 47 ∷ [] = rw c refl in
        inl (ap (λ (best : List ℕ). longest_from seg best rows) (ap (better seg []) e ∙ on)
        ∙ longest-on seg rows (λ u k h. a u k (inr h)))
  ]

  -- how far a part goes, and the rows that go on after it
  step-slash : (rows : RowsOf K) (p : List ℕ) → longest_suffix (segment p) rows ≡ 47 ∷ []
      → param_step rows p ≡ (length (segment p) - 1, with_suffix (47 ∷ []) rows)
  unfolding param_step
  step-slash rows p e = rw e refl

  step-none : (rows : RowsOf K) (p : List ℕ) → longest_suffix (segment p) rows ≡ []
      → param_step rows p ≡ cond (has_slash p) (0, []) (length p, rows)
  unfolding param_step
  step-none rows p e = rw e refl

  nothing-step : (p : List ℕ) → (param_step {K = K} [] p).1 ≡ []
  unfolding param_step
  nothing-step p = elim (has_slash p) as (λ v. (cond {A = ℕ × RowsOf K} v (0, []) (length p, [])).1 ≡ []) [
    | true ↦ refl
    | false ↦ refl
  ]

  seek-nothing : (k : ℕ) (p : List ℕ) → seek {K = K} k [] p ≡ None
  unfolding seek
  seek-nothing k [] = refl
  seek-nothing (suc k) (b ∷ p) = seek-nothing k p
  seek-nothing zero (b ∷ p) =
      simp (seek-nothing 0 p, nothing-step (b ∷ p), seek-nothing (((param_step {K = K} [] (b ∷ p)).0) - 1) p)

  seek-later : (k : ℕ) (rows : RowsOf K) (p : List ℕ) → seek k rows p ≡ seek 0 rows (drop k p)
  unfolding seek
  seek-later zero rows p = refl
  seek-later (suc k) rows [] = refl
  seek-later (suc k) rows (b ∷ p) = seek-later k rows p

  seek-end : (rows : RowsOf K) → seek 0 rows [] ≡ own rows
  unfolding seek
  seek-end rows = refl

  -- what the search finds by a part
  abbrev by_part : RowsOf K → ℕ → List ℕ → Option K
  by_part rows b path = seek ((param_step rows (b ∷ path)).0 - 1) (param_step rows (b ∷ path)).1 path

  seek-next : (rows : RowsOf K) (b : ℕ) (path : List ℕ) → seek 0 rows (b ∷ path)
      ≡ or_else (seek 0 (step b rows) path) (or_else (by_part (step 256 rows) b path) (own (step 257 rows)))
  unfolding seek
  seek-next rows b path = refl

  at-end-answers : (rows : RowsOf K) (o : Option K) → own rows ≡ o → Answers (λ t. fits t []) rows o
  at-end-answers rows None e = none
    where
      none : (t : List ℕ) (k : K) → HasRow t k rows → fits t [] ≡ false
      none [] k h = absurd (own-none rows k e h)
      none (x ∷ t) k h = refl
  at-end-answers rows (Some k) e = ([], own-some rows k e, refl)

  -- a test that agrees on the rows
  answers-as : (test other : List ℕ → Bool) (rows : RowsOf K) (o p : Option K) → o ≡ p
      → ((t : List ℕ) (k : K) → HasRow t k rows → test t ≡ other t) → Answers other rows p → Answers test rows o
  answers-as test other rows o p e same x = subst (λ (q : Option K). Answers test rows q) (sym e) (on p x)
    where
      on : (q : Option K) → Answers other rows q → Answers test rows q
      on None x = λ t k h. same t k h ∙ x t k h
      on (Some k) x = (x.0, x.1, same x.0 k x.1 ∙ x.2)

  module _ (n : ℕ)
      (shorter : (rows : RowsOf K) (q : List ℕ) → length q ≤ n → IsText q → AreSimple rows → Answers (λ t. fits t q) rows (seek 0 rows q))
    where
      -- a path without a slash is a part, and then its end
      bare-answers : (rows : RowsOf K) (b : ℕ) (path : List ℕ) → AtEnds rows → IsBare (b ∷ path)
          → Answers (λ t. fits (256 ∷ t) (b ∷ path)) rows (by_part rows b path)
      bare-answers rows b path ends x =
          let long = longest-none (segment (b ∷ path)) rows (bare-cuts (b ∷ path) x) ends in
          let step : param_step rows (b ∷ path) ≡ (suc (length path), rows) =
          step-none rows (b ∷ path) long ∙ ap (λ (v : Bool). cond v (0, []) (suc (length path), rows)) x.none in
          let found : by_part rows b path ≡ own rows =
          ap (λ (s : ℕ × RowsOf K). seek (s.0 - 1) s.1 path) step
          ∙ seek-later (suc (length path) - 1) rows path
          ∙ ap (λ (p : List ℕ). seek 0 rows p) (drop_all (suc (length path) - 1) path (omega arith))
          ∙ seek-end rows in
          answers-as (λ t. fits (256 ∷ t) (b ∷ path)) (λ t. fits t []) rows (by_part rows b path) (own rows) found
          (λ t k h. part-same b path t (All-head (λ c. eqb c 47 ≡ false) b path x.all) ∙ ap (fits t) x.rest)
          (at-end-answers rows (own rows) refl)

      -- with nothing to go on after a part, nothing is found
      none-answers : (rows : RowsOf K) (b : ℕ) (path : List ℕ) → IsSlashed (b ∷ path) → longest_suffix (segment (b ∷ path)) rows ≡ []
          → ((t : List ℕ) (k : K) → HasRow t k rows → fits (256 ∷ t) (b ∷ path) ≡ false)
          → Answers (λ t. fits (256 ∷ t) (b ∷ path)) rows (by_part rows b path)
      none-answers rows b path x long none =
          let step : param_step rows (b ∷ path) ≡ (0, []) =
          step-none rows (b ∷ path) long ∙ ap (λ (v : Bool). cond v (0, []) (suc (length path), rows)) x.some in
          let found : by_part rows b path ≡ None =
          ap (λ (s : ℕ × RowsOf K). seek (s.0 - 1) s.1 path) step ∙ seek-nothing (0 - 1) path in
          subst (λ (q : Option K). Answers (λ t. fits (256 ∷ t) (b ∷ path)) rows q) (sym found) none

      -- a part before a slash, and then the rest
      slash-answers : (rows : RowsOf K) (b : ℕ) (path : List ℕ) → length path ≤ n → IsText (b ∷ path) → AreSimple rows → AtEnds rows
          → IsSlashed (b ∷ path) → eqb b 47 ≡ false → longest_suffix (segment (b ∷ path)) rows ≡ 47 ∷ []
          → Answers (λ t. fits (256 ∷ t) (b ∷ path)) rows (by_part rows b path)
      slash-answers rows b path l text simple ends x other long =
          let more : RowsOf K = with_suffix (47 ∷ []) rows in
          let part : List ℕ = part_of (b ∷ path) in
          let size : length (segment (b ∷ path)) - 1 ≡ length part = omega (arith, ap length x.seg, length-append part (47 ∷ [])) in
          let first = part-of-more b path other in
          let after : drop (length part - 1) path ≡ rest_of (b ∷ path) =
          drop-suc (length part) b path (omega (arith, ap length first)) ∙ ap (drop (length part)) x.whole
          ∙ drop_at part (47 ∷ x.more) (length part) refl ∙ sym x.rest in
          let found : by_part rows b path ≡ seek 0 more (rest_of (b ∷ path)) =
          ap (λ (s : ℕ × RowsOf K). seek (s.0 - 1) s.1 path) (step-slash rows (b ∷ path) long)
          ∙ ap (λ (m : ℕ). seek (m - 1) more path) size
          ∙ seek-later (length part - 1) more path ∙ ap (λ (p : List ℕ). seek 0 more p) after in
          let short : length (rest_of (b ∷ path)) ≤ n =
          omega (arith, l, ap length x.rest, ap length x.whole, length-append part (47 ∷ x.more), ap length first) in
          let inner = shorter more (rest_of (b ∷ path)) short (rest-text (b ∷ path) text) (λ t k h. simple t k (suffix-has rows t k h)) in
          subst (λ (q : Option K). Answers (λ t. fits (256 ∷ t) (b ∷ path)) rows q) (sym found)
          (widen (seek 0 more (rest_of (b ∷ path))) inner)
        where
          drop-suc : (m c : ℕ) (p : List ℕ) → 0 < m → drop (m - 1) p ≡ drop m (c ∷ p)
          drop-suc zero c p some = absurd (omega arith)
          drop-suc (suc m) c p some = ap (λ (i : ℕ). drop i p) (let q : suc m - 1 ≡ m = omega arith in q)

          same : (t : List ℕ) → fits (256 ∷ t) (b ∷ path) ≡ fits t (rest_of (b ∷ path))
          same t = part-same b path t other

          ended : (t : List ℕ) → t ≡ [] → fits t (rest_of (b ∷ path)) ≡ false
          ended t e = ap (λ (u : List ℕ). fits u (rest_of (b ∷ path))) e ∙ ap (fits []) x.rest

          widen : (o : Option K) → Answers (λ t. fits t (rest_of (b ∷ path))) (with_suffix (47 ∷ []) rows) o
              → Answers (λ t. fits (256 ∷ t) (b ∷ path)) rows o
          widen None y = λ t k h. same t ∙ elim (seg-end t (ends t k h)) [
            | inl e ↦ ended t e
            | inr e ↦ y t k (has-suffix rows t k h e)
          ]
          widen (Some k) y = (y.0, suffix-has rows y.0 k y.1, same y.0 ∙ y.2)

      part-answers : (rows : RowsOf K) (b : ℕ) (path : List ℕ) → length path ≤ n → IsText (b ∷ path) → AreSimple rows → AtEnds rows
          → Answers (λ t. fits (256 ∷ t) (b ∷ path)) rows (by_part rows b path)
      part-answers rows b path l text simple ends = elim (kind (b ∷ path)) [
        | inl x ↦ bare-answers rows b path ends x
        | inr x ↦ elim (cases_Bool (eqb b 47)) [
          | inl e ↦
              let seg : segment (b ∷ path) ≡ 47 ∷ [] = rw (e, eqb-true b 47 e) refl in
              let cut : cuts (segment (b ∷ path)) (47 ∷ []) ≡ false = ap (λ (s : List ℕ). cuts s (47 ∷ [])) seg in
              none-answers rows b path x (longest-none (segment (b ∷ path)) rows cut ends) (λ t k h. rw e refl)
          | inr e ↦
              let some : 0 < length (part_of (b ∷ path)) = omega (arith, ap length (part-of-more b path e)) in
              elim (longest-some (segment (b ∷ path)) rows (slashed-cuts (b ∷ path) x some) ends) [
                | inl long ↦ slash-answers rows b path l text simple ends x e long
                | inr f ↦ none-answers rows b path x f.0
                    (λ t k h. part-same b path t e ∙ ap (λ (u : List ℕ). fits u (rest_of (b ∷ path))) (f.1 t k h) ∙ ap (fits []) x.rest)
              ]
        ]
      ]

  no-catch-all : (rows : RowsOf K) → AreSimple rows → own (step 257 rows) ≡ None
  no-catch-all rows simple = by (own (step 257 rows)) refl
    where
      by : (o : Option K) → own (step 257 rows) ≡ o → own (step 257 rows) ≡ None
      by None e = e
      by (Some k) e =
          let h = step-has 257 rows [] k (own-some (step 257 rows) k e) in
          absurd (false≢true (simple (257 ∷ []) k h))

  next-answers : (n : ℕ)
      (shorter : (rows : RowsOf K) (q : List ℕ) → length q ≤ n → IsText q → AreSimple rows → Answers (λ t. fits t q) rows (seek 0 rows q))
      (rows : RowsOf K) (b : ℕ) (path : List ℕ) → length path ≤ n → IsText (b ∷ path) → AreSimple rows
      → Answers (λ t. fits t (b ∷ path)) rows (seek 0 rows (b ∷ path))
  next-answers n shorter rows b path l text simple =
      let literal = shorter (step b rows) path l text.1 (λ t k h. (simple-parts b t (simple (b ∷ t) k (step-has b rows t k h))).1) in
      let part = part-answers n shorter (step 256 rows) b path l text
      (λ t k h. (simple-parts 256 t (simple (256 ∷ t) k (step-has 256 rows t k h))).1)
      (λ t k h. (simple-parts 256 t (simple (256 ∷ t) k (step-has 256 rows t k h))).0) in
      let found = seek-next rows b path
      ∙ ap (λ (c : Option K). or_else (seek 0 (step b rows) path) (or_else (by_part (step 256 rows) b path) c)) (no-catch-all rows simple) in
      subst (λ (q : Option K). Answers (λ t. fits t (b ∷ path)) rows q) (sym found)
      (by (seek 0 (step b rows) path) (by_part (step 256 rows) b path) literal part)
    where
      is_byte : eqb b 256 ≡ false
      is_byte = ne_eqb b 256 (λ e. omega (arith, text.0))

      by-literal : (t : List ℕ) → fits (b ∷ t) (b ∷ path) ≡ fits t path
      by-literal t = rw (is_byte, eq-eqb b b refl) refl

      neither : (t : List ℕ) (k : K) → HasRow t k rows → ((u : List ℕ) (m : K) → HasRow u m (step b rows) → fits u path ≡ false)
          → ((u : List ℕ) (m : K) → HasRow u m (step 256 rows) → fits (256 ∷ u) (b ∷ path) ≡ false) → fits t (b ∷ path) ≡ false
      neither [] k h x y = refl
      neither (c ∷ t) k h x y = elim (cases_Bool (eqb c 256)) [
        | inl e ↦
            let same : c ≡ 256 = eqb-true c 256 e in
            ap (λ (z : ℕ). fits (z ∷ t) (b ∷ path)) same
            ∙ y t k (has-step 256 rows t k (subst (λ (z : ℕ). HasRow (z ∷ t) k rows) same h))
        | inr e ↦ elim (cases_Bool (eqb c b)) [
          | inl f ↦
              let same : c ≡ b = eqb-true c b f in
              ap (λ (z : ℕ). fits (z ∷ t) (b ∷ path)) same ∙ by-literal t
              ∙ x t k (has-step b rows t k (subst (λ (z : ℕ). HasRow (z ∷ t) k rows) same h))
          | inr f ↦ rw (e, f) refl
        ]
      ]

      by : (o q : Option K) → Answers (λ t. fits t path) (step b rows) o → Answers (λ t. fits (256 ∷ t) (b ∷ path)) (step 256 rows) q
          → Answers (λ t. fits t (b ∷ path)) rows (or_else o (or_else q None))
      by (Some k) q x y = (b ∷ x.0, step-has b rows x.0 k x.1, by-literal x.0 ∙ x.2)
      by None (Some k) x y = (256 ∷ y.0, step-has 256 rows y.0 k y.1, y.2)
      by None None x y = λ t k h. neither t k h x y

  -- the search finds a row that fits the path, or none where none does
  pub seek-answers : (n : ℕ) (rows : RowsOf K) (p : List ℕ) → length p ≤ n → IsText p → AreSimple rows
      → Answers (λ t. fits t p) rows (seek 0 rows p)
  seek-answers n rows [] l text simple =
      subst (λ (q : Option K). Answers (λ t. fits t []) rows q) (sym (seek-end rows)) (at-end-answers rows (own rows) refl)
  seek-answers zero rows (b ∷ path) l text simple = absurd (omega arith)
  seek-answers (suc n) rows (b ∷ path) l text simple =
      next-answers n (λ r q m t s. seek-answers n r q m t s) rows b path (omega arith) text simple
