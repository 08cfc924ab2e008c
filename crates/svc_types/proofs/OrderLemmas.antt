-- Entries in order: what placing one keeps, and what leaving some out does.
use Rattle.std.proofs.Common.{◌≡◌, ℕ, zero, suc, ◌+◌, ◌≤◌, ◌<◌, Bool, true, false, cond, List, [], ◌∷◌, ◌++◌, length, take, get_or, arith, refl, sym, ap, ◌∙◌, append-nil, add-one}
use Rattle.std.proofs.Math.Seq.{take-suc}
use Rattle.std.specs.Prelude.{◌≢◌, ◌&&◌, ◌||◌, ◌==◌, nat_lt, not, map, is_ok, Result, Ok, Err, if◌then◌else◌}
use Rattle.std.specs.List.{All, AllPairs, filter, insert, list_any}
use Rattle.std.specs.List.Sorted.{IsSorted, IsPermutation, IsPartitionedBy, IsPartitionPoint, IsBinarySearchResult}
use Rattle.std.specs.Ordering.{nat_cmp}
use Rattle.std.proofs.lemmas.List.Elements.{All-cons, All-head, All-tail, All-filter}
use Rattle.std.proofs.lemmas.List.Kept.{AllPairs-cons}
use Rattle.std.proofs.lemmas.List.Sorted.{searched, IsNonDecreasingBy-from_sort, IsPermutation-refl, IsPermutation-cons, IsPermutation-trans, IsPermutation-append_left, IsPermutation-middle, IsPermutation-sym}
use Rattle.std.proofs.lemmas.Bool.Decides.{nat_tests}
use Rattle.svc_types.specs.declared.account.Entry.{Entry}
use Rattle.svc_types.specs.Live.{is_before, placed, placed_onto, in_order, is_reversed, is_live, live_entries}

-- ---- the order

-- the test of `is_before` on days and numbers
abbrev test : ℕ → ℕ → ℕ → ℕ → Bool
test d n d' n' = nat_lt d d' || ((d == d') && nat_lt n n')

test_past : (d n d' n' d'' n'' : ℕ) → test d n d' n' ≡ true → test d'' n'' d' n' ≡ false → test d'' n'' d n ≡ false
test_past d n d' n' d'' n'' lt ge = grind (arith, nat_tests)

test_before : (d n d' n' d'' n'' : ℕ) → test d n d' n' ≡ true → test d'' n'' d' n' ≡ false → test d n d'' n'' ≡ true
test_before d n d' n' d'' n'' lt ge = grind (arith, nat_tests)

test_days : (d n d' n' : ℕ) → test d' n' d n ≡ false → d ≤ d'
test_days d n d' n' ge = grind (arith, nat_tests)

test_irrefl : (d n d' n' : ℕ) → test d n d' n' ≡ true → test d' n' d n ≡ false
test_irrefl d n d' n' lt = grind (arith, nat_tests)

-- an entry does not take effect before an earlier one
abbrev pub follows : Entry → Entry → Type 0
follows a b = is_before b a ≡ false

before_all : (e x : Entry) (xs : List Entry) → is_before e x ≡ true → All (λ y. is_before y x ≡ false) xs → All (λ y. is_before y e ≡ false) xs
before_all e x xs lt h k d within = test_past e.day e.number x.day x.number (get_or xs k d).day (get_or xs k d).number lt (h k d within)

all_before : (e x : Entry) (xs : List Entry) → is_before e x ≡ true → All (λ y. is_before y x ≡ false) xs → All (λ y. is_before e y ≡ true) xs
all_before e x xs lt h k d within = test_before e.day e.number x.day x.number (get_or xs k d).day (get_or xs k d).number lt (h k d within)

pub pairs_tail : {X : Type 0} (R : X → X → Type 0) (x : X) (xs : List X) → AllPairs R (x ∷ xs) → AllPairs R xs
pairs_tail R x xs h i j d lt within = h (suc i) (suc j) d (omega arith) (omega arith)

pub pairs_head : {X : Type 0} (R : X → X → Type 0) (x : X) (xs : List X) → AllPairs R (x ∷ xs) → All (R x) xs
pairs_head R x xs h k d within = h 0 (suc k) d (omega arith) (omega arith)

-- ---- placing an entry

pub placed_all : (P : Entry → Type 0) (e : Entry) (xs : List Entry) → P e → All P xs → All P (placed e xs)
placed_all P e [] p h = All-cons P e [] p h
placed_all P e (x ∷ xs) p h =
    elim (is_before e x) as (λ v. All P (if v then e ∷ x ∷ xs else x ∷ placed e xs)) [
      | true ↦ All-cons P e (x ∷ xs) p h
      | false ↦ All-cons P x (placed e xs) (All-head P x xs h) (placed_all P e xs p (All-tail P x xs h))
    ]

-- entries in order stay so
pub placed_order : (e : Entry) (xs : List Entry) → AllPairs follows xs → AllPairs follows (placed e xs)
placed_order e [] h = AllPairs-cons follows e [] (λ k d lt. absurd (omega arith)) h
placed_order e (x ∷ xs) h =
    let rest = pairs_tail follows x xs h in
    let head : All (follows x) xs = pairs_head follows x xs h in
    elim (is_before e x) as (λ v. is_before e x ≡ v → AllPairs follows (if v then e ∷ x ∷ xs else x ∷ placed e xs)) [
      | true ↦ λ lt.
          let first = test_irrefl e.day e.number x.day x.number lt in
          AllPairs-cons follows e (x ∷ xs) (All-cons (follows e) x xs first (before_all e x xs lt head)) h
      | false ↦ λ ge. AllPairs-cons follows x (placed e xs) (placed_all (follows x) e xs ge head) (placed_order e xs rest)
    ] refl

placed_first : (e : Entry) (xs : List Entry) → All (λ y. is_before e y ≡ true) xs → placed e xs ≡ e ∷ xs
placed_first e [] h = refl
placed_first e (x ∷ xs) h = let lt = All-head (λ y. is_before e y ≡ true) x xs h in rw lt

-- one more entry among those that pass a test, where it passes it
abbrev placed_if : Bool → Entry → List Entry → List Entry
placed_if passes e xs = if passes then placed e xs else xs

placed_filter : (p : Entry → Bool) (e : Entry) (xs : List Entry) → AllPairs follows xs → filter p (placed e xs) ≡ placed_if (p e) e (filter p xs)
placed_filter p e [] h = elim (p e) as (λ v. cond v (e ∷ []) [] ≡ placed_if v e []) [ true ↦ refl | false ↦ refl ]
placed_filter p e (x ∷ xs) h =
    let rest = pairs_tail follows x xs h in
    let head : All (follows x) xs = pairs_head follows x xs h in
    elim (is_before e x) as (λ v. is_before e x ≡ v → filter p (if v then e ∷ x ∷ xs else x ∷ placed e xs) ≡ placed_if (p e) e (filter p (x ∷ xs))) [
      | true ↦ λ lt.
          let later : All (λ y. is_before e y ≡ true) (x ∷ xs) = All-cons (λ y. is_before e y ≡ true) x xs lt (all_before e x xs lt head) in
          let first = placed_first e (filter p (x ∷ xs)) (All-filter p (λ y. is_before e y ≡ true) (x ∷ xs) later) in
          elim (p e) as (λ v. cond v (e ∷ filter p (x ∷ xs)) (filter p (x ∷ xs)) ≡ placed_if v e (filter p (x ∷ xs))) [ true ↦ sym first | false ↦ refl ]
      | false ↦ λ ge.
          let same = placed_filter p e xs rest in
          elim (p x) as (λ v. cond v (x ∷ filter p (placed e xs)) (filter p (placed e xs)) ≡ placed_if (p e) e (cond v (x ∷ filter p xs) (filter p xs))) [
            | true ↦ ap (λ ys. x ∷ ys) same ∙ (elim (p e) as (λ w. x ∷ placed_if w e (filter p xs) ≡ placed_if w e (x ∷ filter p xs)) [ true ↦ rw ge | false ↦ refl ])
            | false ↦ same
          ]
    ] refl

-- ---- placing entries one after another

pub placed_onto_order : (xs es : List Entry) → AllPairs follows xs → AllPairs follows (placed_onto xs es)
placed_onto_order xs [] h = h
placed_onto_order xs (e ∷ es) h = placed_onto_order (placed e xs) es (placed_order e xs h)

pub placed_onto_more : (xs es : List Entry) (e : Entry) → placed_onto xs (es ++ e ∷ []) ≡ placed e (placed_onto xs es)
placed_onto_more xs [] e = refl
placed_onto_more xs (x ∷ es) e = placed_onto_more (placed x xs) es e

pub placed_onto_all : (P : Entry → Type 0) (xs es : List Entry) → All P xs → All P es → All P (placed_onto xs es)
placed_onto_all P xs [] h g = h
placed_onto_all P xs (e ∷ es) h g = placed_onto_all P (placed e xs) es (placed_all P e xs (All-head P e es g) h) (All-tail P e es g)

placed_onto_filter : (p : Entry → Bool) (xs es : List Entry) → AllPairs follows xs → filter p (placed_onto xs es) ≡ placed_onto (filter p xs) (filter p es)
placed_onto_filter p xs [] h = refl
placed_onto_filter p xs (e ∷ es) h =
    let later = placed_onto_filter p (placed e xs) es (placed_order e xs h) in
    let here = placed_filter p e xs h in
    later ∙ ap (λ ys. placed_onto ys (filter p es)) here ∙ (elim (p e) as (λ v. placed_onto (placed_if v e (filter p xs)) (filter p es) ≡ placed_onto (filter p xs) (cond v (e ∷ filter p es) (filter p es))) [ true ↦ refl | false ↦ refl ])

none_follow : AllPairs follows []
none_follow i j d lt within = absurd (omega arith)

take_next : (xs : List Entry) (i : ℕ) (e : Entry) → i < length xs → e ≡ get_or xs i e → take (i + 1) xs ≡ take i xs ++ e ∷ []
take_next xs i e lt is = ap (λ n. take n xs) (add-one i) ∙ take-suc xs i e lt ∙ ap (λ x. take i xs ++ x ∷ []) (sym is)

take_all : (i : ℕ) (xs : List Entry) → length xs ≤ i → take i xs ≡ xs
take_all zero [] le = refl
take_all (suc i) [] le = refl
take_all zero (x ∷ xs) le = absurd (omega arith)
take_all (suc i) (x ∷ xs) le = ap (λ ys. x ∷ ys) (take_all i xs (omega arith))

-- ---- live entries

-- they stand in order
pub live_order : (entries : List Entry) (reversals : List (ℕ × ℕ)) → AllPairs follows (live_entries entries reversals)
unfolding live_entries
live_order entries reversals = placed_onto_order [] (filter (is_live reversals) entries) none_follow

pub live_all : (P : Entry → Type 0) (entries : List Entry) (reversals : List (ℕ × ℕ)) → All P entries → All P (live_entries entries reversals)
unfolding live_entries
live_all P entries reversals h = placed_onto_all P [] (filter (is_live reversals) entries) (λ k d lt. absurd (omega arith)) (All-filter (is_live reversals) P entries h)

filter_append : (p : Entry → Bool) (xs ys : List Entry) → filter p (xs ++ ys) ≡ filter p xs ++ filter p ys
filter_append p [] ys = refl
filter_append p (x ∷ xs) ys =
    elim (p x) as (λ v. cond v (x ∷ filter p (xs ++ ys)) (filter p (xs ++ ys)) ≡ cond v (x ∷ filter p xs) (filter p xs) ++ filter p ys) [
      | true ↦ ap (λ zs. x ∷ zs) (filter_append p xs ys)
      | false ↦ filter_append p xs ys
    ]

-- one more entry stands in its place among them
pub live_posted : (entries : List Entry) (reversals : List (ℕ × ℕ)) (e : Entry) → is_reversed reversals e.number ≡ false → live_entries (entries ++ e ∷ []) reversals ≡ placed e (live_entries entries reversals)
unfolding live_entries
live_posted entries reversals e free =
    let here : filter (is_live reversals) (e ∷ []) ≡ e ∷ [] = rw free in
    ap in_order (filter_append (is_live reversals) entries (e ∷ []) ∙ ap (λ ys. filter (is_live reversals) entries ++ ys) here)
    ∙ placed_onto_more [] (filter (is_live reversals) entries) e

reversed_more : (reversals : List (ℕ × ℕ)) (r : ℕ × ℕ) (n : ℕ) → is_reversed (reversals ++ r ∷ []) n ≡ (is_reversed reversals n || (r.0 == n))
reversed_more [] r n = elim (r.0 == n) as (λ v. (v || false) ≡ (false || v)) [ true ↦ refl | false ↦ refl ]
reversed_more (x ∷ xs) r n = elim (x.0 == n) as (λ v. (v || is_reversed (xs ++ r ∷ []) n) ≡ ((v || is_reversed xs n) || (r.0 == n))) [ true ↦ refl | false ↦ reversed_more xs r n ]

filter_twice : (reversals : List (ℕ × ℕ)) (r : ℕ × ℕ) (entries : List Entry) → filter (is_live (reversals ++ r ∷ [])) entries ≡ filter (λ e. not (r.0 == e.number)) (filter (is_live reversals) entries)
filter_twice reversals r [] = refl
filter_twice reversals r (e ∷ es) =
    let more = reversed_more reversals r e.number in
    let rest = filter_twice reversals r es in
    rw more (elim (is_reversed reversals e.number) as (λ v. cond (not (v || (r.0 == e.number))) (e ∷ filter (is_live (reversals ++ r ∷ [])) es) (filter (is_live (reversals ++ r ∷ [])) es) ≡ filter (λ x. not (r.0 == x.number)) (cond (not v) (e ∷ filter (is_live reversals) es) (filter (is_live reversals) es))) [
      | true ↦ rest
      | false ↦ elim (r.0 == e.number) as (λ w. cond (not w) (e ∷ filter (is_live (reversals ++ r ∷ [])) es) (filter (is_live (reversals ++ r ∷ [])) es) ≡ cond (not w) (e ∷ filter (λ x. not (r.0 == x.number)) (filter (is_live reversals) es)) (filter (λ x. not (r.0 == x.number)) (filter (is_live reversals) es))) [ true ↦ rest | false ↦ ap (λ ys. e ∷ ys) rest ]
    ])

-- one more reversal leaves out the entry that it names
pub live_reversed : (entries : List Entry) (reversals : List (ℕ × ℕ)) (r : ℕ × ℕ) → live_entries entries (reversals ++ r ∷ []) ≡ filter (λ e. not (r.0 == e.number)) (live_entries entries reversals)
unfolding live_entries
live_reversed entries reversals r =
    ap in_order (filter_twice reversals r entries)
    ∙ sym (placed_onto_filter (λ e. not (r.0 == e.number)) [] (filter (is_live reversals) entries) none_follow)

-- no entry is on an earlier day than one before it
pub order_days : (xs : List Entry) → AllPairs follows xs → AllPairs (λ a b. a.day ≤ b.day) xs
order_days xs h i j d lt within = test_days (get_or xs i d).day (get_or xs i d).number (get_or xs j d).day (get_or xs j d).number (h i j d lt within)

-- ---- the order moves entries, and leaves out none

swapped : (e x : Entry) (xs : List Entry) → IsPermutation (e ∷ x ∷ xs) (x ∷ e ∷ xs)
swapped e x xs = IsPermutation-sym (x ∷ e ∷ xs) (e ∷ x ∷ xs) (IsPermutation-middle (x ∷ []) e xs)

placed_moves : (e : Entry) (xs : List Entry) → IsPermutation (e ∷ xs) (placed e xs)
placed_moves e [] = IsPermutation-refl (e ∷ [])
placed_moves e (x ∷ xs) =
    elim (is_before e x) as (λ v. IsPermutation (e ∷ x ∷ xs) (if v then e ∷ x ∷ xs else x ∷ placed e xs)) [
      | true ↦ IsPermutation-refl (e ∷ x ∷ xs)
      | false ↦ IsPermutation-trans (e ∷ x ∷ xs) (x ∷ e ∷ xs) (x ∷ placed e xs) (swapped e x xs) (IsPermutation-cons x (e ∷ xs) (placed e xs) (placed_moves e xs))
    ]

placed_onto_moves : (xs es : List Entry) → IsPermutation (xs ++ es) (placed_onto xs es)
placed_onto_moves xs [] = rw append-nil (IsPermutation-refl xs)
placed_onto_moves xs (e ∷ es) =
    IsPermutation-trans (xs ++ e ∷ es) (placed e xs ++ es) (placed_onto (placed e xs) es)
    (IsPermutation-trans (xs ++ e ∷ es) (e ∷ (xs ++ es)) (placed e xs ++ es) (IsPermutation-middle xs e es) (IsPermutation-append_left es (e ∷ xs) (placed e xs) (placed_moves e xs)))
    (placed_onto_moves (placed e xs) es)

-- the live entries are those that no reversal names
pub live_moves : (entries : List Entry) (reversals : List (ℕ × ℕ)) → IsPermutation (filter (is_live reversals) entries) (live_entries entries reversals)
unfolding live_entries
live_moves entries reversals = placed_onto_moves [] (filter (is_live reversals) entries)

-- ---- the place of an entry

placed_take : (e : Entry) (xs : List Entry) (i : ℕ) → i ≤ length xs → ((k : ℕ) (d : Entry) → k < i → is_before e (get_or xs k d) ≡ false) → ((k : ℕ) (d : Entry) → i ≤ k → k < length xs → is_before e (get_or xs k d) ≡ true) → insert xs i e ≡ placed e xs
placed_take e [] zero le front back = refl
placed_take e [] (suc i) le front back = absurd (omega arith)
placed_take e (x ∷ xs) zero le front back = let lt = back 0 x (omega arith) (omega arith) in rw lt
placed_take e (x ∷ xs) (suc i) le front back =
    let ge = front 0 x (omega arith) in
    let rest = placed_take e xs i (omega arith) (λ k d lt. front (suc k) d (omega arith)) (λ k d low within. back (suc k) d (omega arith) (omega arith)) in
    rw ge (ap (λ ys. x ∷ ys) rest)

not_true : (b : Bool) → not b ≡ true → b ≡ false
not_true b h = grind arith

not_false : (b : Bool) → not b ≡ false → b ≡ true
not_false b h = grind arith

-- what comes at or after an entry that e takes effect before, e takes effect before too
pub partitioned : (e : Entry) (xs : List Entry) → AllPairs follows xs → IsPartitionedBy (λ x. not (is_before e x)) xs
partitioned e xs h i j d le within later =
    elim (nat_lt i j) as (λ v. nat_lt i j ≡ v → not (is_before e (get_or xs i d)) ≡ true) [
      | true ↦ λ lt.
          let a = get_or xs i d in
          let b = get_or xs j d in
          let apart = h i j d (grind (arith, nat_tests)) within in
          let ge = not_true (is_before e b) later in
          elim (is_before e a) as (λ v. is_before e a ≡ v → not v ≡ true) [
            | true ↦ λ first. absurd (let past = test_before e.day e.number a.day a.number b.day b.number first apart in grind (arith, past, ge))
            | false ↦ λ no. refl
          ] refl
      | false ↦ λ ge. let same : i ≡ j = grind (arith, nat_tests) in rw same later
    ] refl

-- at the partition point an entry has its place
pub placed_at : (e : Entry) (xs : List Entry) (i : ℕ) → i ≤ length xs → IsPartitionPoint (λ x. not (is_before e x) ≡ true) (λ x. not (is_before e x) ≡ false) xs i → insert xs i e ≡ placed e xs
placed_at e xs i le point =
    placed_take e xs i le (λ k d lt. not_true (is_before e (get_or xs k d)) (point.0 k d (omega arith) lt)) (λ k d low within. not_false (is_before e (get_or xs k d)) (point.1 k d low within))

-- ---- the entries so far

pub live_more : (entries : List Entry) (reversals : List (ℕ × ℕ)) (i : ℕ) (e : Entry) → i < length entries → e ≡ get_or entries i e → is_reversed reversals e.number ≡ false → in_order (filter (is_live reversals) (take (i + 1) entries)) ≡ placed e (in_order (filter (is_live reversals) (take i entries)))
live_more entries reversals i e lt is free =
    let here : filter (is_live reversals) (e ∷ []) ≡ e ∷ [] = rw free in
    ap (λ xs. in_order (filter (is_live reversals) xs)) (take_next entries i e lt is)
    ∙ ap in_order (filter_append (is_live reversals) (take i entries) (e ∷ []) ∙ ap (λ ys. filter (is_live reversals) (take i entries) ++ ys) here)
    ∙ placed_onto_more [] (filter (is_live reversals) (take i entries)) e

pub live_same : (entries : List Entry) (reversals : List (ℕ × ℕ)) (i : ℕ) (e : Entry) → i < length entries → e ≡ get_or entries i e → is_reversed reversals e.number ≡ true → in_order (filter (is_live reversals) (take (i + 1) entries)) ≡ in_order (filter (is_live reversals) (take i entries))
live_same entries reversals i e lt is named =
    let here : filter (is_live reversals) (e ∷ []) ≡ [] = rw named in
    ap (λ xs. in_order (filter (is_live reversals) xs)) (take_next entries i e lt is)
    ∙ ap in_order (filter_append (is_live reversals) (take i entries) (e ∷ []) ∙ ap (λ ys. filter (is_live reversals) (take i entries) ++ ys) here ∙ append-nil (filter (is_live reversals) (take i entries)))

-- all of them
pub live_whole : (entries : List Entry) (reversals : List (ℕ × ℕ)) (i : ℕ) → length entries ≤ i → in_order (filter (is_live reversals) (take i entries)) ≡ live_entries entries reversals
unfolding live_entries
live_whole entries reversals i le = ap (λ xs. in_order (filter (is_live reversals) xs)) (take_all i entries le)

pub ordered_order : (entries : List Entry) → AllPairs follows (in_order entries)
ordered_order entries = placed_onto_order [] entries none_follow

-- ---- numbers that are looked for

pub list_any-map : {X Y : Type 0} (p : Y → Bool) (f : X → Y) (xs : List X) → list_any p (map f xs) ≡ list_any (λ x. p (f x)) xs
list_any-map p f [] = refl
list_any-map p f (x ∷ xs) = ap (λ v. p (f x) || v) (list_any-map p f xs)

any_at : (xs : List ℕ) (x i : ℕ) → i < length xs → get_or xs i 0 ≡ x → list_any (λ y. y == x) xs ≡ true
any_at [] x i lt is = absurd (omega arith)
any_at (y ∷ ys) x zero lt is = let same : (y == x) ≡ true = grind (arith, nat_tests) in rw same
any_at (y ∷ ys) x (suc i) lt is = let rest = any_at ys x i (omega arith) is in rw rest (elim (y == x) as (λ v. (v || true) ≡ true) [ true ↦ refl | false ↦ refl ])

any_none : (xs : List ℕ) (x : ℕ) → ((k : ℕ) → k < length xs → get_or xs k 0 ≢ x) → list_any (λ y. y == x) xs ≡ false
any_none [] x h = refl
any_none (y ∷ ys) x h =
    let here = h 0 (omega arith) in
    let other : (y == x) ≡ false = grind (arith, nat_tests) in
    rw other (any_none ys x (λ k lt. h (suc k) (omega arith)))

apart : (xs : List ℕ) (x i : ℕ) → ((k : ℕ) → k < i → get_or xs k 0 < x) → ((k : ℕ) → i ≤ k → k < length xs → x < get_or xs k 0) → (k : ℕ) → k < length xs → get_or xs k 0 ≢ x
apart xs x i low high k within is =
    elim (nat_lt k i) as (λ v. nat_lt k i ≡ v → ⊥) [
      | true ↦ λ lt. let below = low k (grind (arith, nat_tests)) in omega arith
      | false ↦ λ ge. let above = high k (grind (arith, nat_tests)) within in omega arith
    ] refl

pub among : (xs : List ℕ) (x : ℕ) (r : Result ℕ ℕ) → IsSorted nat_cmp xs → IsBinarySearchResult (λ y. nat_cmp y x) xs r → is_ok r ≡ list_any (λ y. y == x) xs
among xs x (Ok i) sorted found = let at = searched xs x (Ok i) found (λ i j le within. IsNonDecreasingBy-from_sort (λ (y : ℕ). y) xs sorted i j 0 le within) in sym (any_at xs x i at.0 at.1)
among xs x (Err i) sorted found = let at = searched xs x (Err i) found (λ i j le within. IsNonDecreasingBy-from_sort (λ (y : ℕ). y) xs sorted i j 0 le within) in sym (any_none xs x (apart xs x i at.1 at.2))
