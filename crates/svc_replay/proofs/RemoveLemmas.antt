-- The place of a live entry, and what is left without it.
use Rattle.std.proofs.Common.{◌≡◌, ℕ, zero, suc, ◌+◌, ◌≤◌, ◌<◌, Bool, true, false, cond, List, [], ◌∷◌, length, get_or, arith, refl, sym, ap, ◌∙◌}
use Rattle.std.specs.Prelude.{◌≢◌, ◌==◌, not, nat_lt, if◌then◌else◌}
use Rattle.std.specs.List.{All, AllPairs, Contains, filter, remove}
use Rattle.std.specs.List.Sorted.{IsPartitionedBy, IsPartitionPoint}
use Rattle.std.proofs.lemmas.List.Elements.{All-head, All-tail}
use Rattle.std.proofs.lemmas.List.Kept.{AllPairs-cons, AllPairs-filter}
use Rattle.std.proofs.lemmas.List.Sorted.{Contains-permutation}
use Rattle.std.proofs.lemmas.Bool.Decides.{nat_tests}
use Rattle.svc_types.specs.declared.account.Entry.{Entry}
use Rattle.svc_types.specs.Live.{is_before, placed, placed_onto, is_reversed, is_live, live_entries}
use Rattle.svc_types.proofs.OrderLemmas.{follows, pairs_head, pairs_tail, placed_all, live_moves}
use Rattle.svc_replay.specs.Kept.{differ}

-- ---- live entries have different numbers

lower_differs : (a b : ℕ) → a < b → a ≢ b
lower_differs a b lt = λ e. omega arith

higher_differs : (a b : ℕ) → b < a → a ≢ b
higher_differs a b lt = λ e. omega arith

placed_differ : (e : Entry) (xs : List Entry) → All (λ y. y.number < e.number) xs → AllPairs differ xs → AllPairs differ (placed e xs)
placed_differ e [] h apart = AllPairs-cons differ e [] (λ k d lt. absurd (omega arith)) apart
placed_differ e (x ∷ xs) h apart =
    let below = All-head (λ (y : Entry). y.number < e.number) x xs h in
    elim (is_before e x) as (λ v. AllPairs differ (if v then e ∷ x ∷ xs else x ∷ placed e xs)) [
      | true ↦ AllPairs-cons differ e (x ∷ xs) (λ k d lt. higher_differs e.number (get_or (x ∷ xs) k d).number (h k d lt)) apart
      | false ↦ AllPairs-cons differ x (placed e xs) (placed_all (differ x) e xs (lower_differs x.number e.number below) (pairs_head differ x xs apart)) (placed_differ e xs (All-tail (λ (y : Entry). y.number < e.number) x xs h) (pairs_tail differ x xs apart))
    ]

placed_onto_differ : (xs es : List Entry) (n : ℕ) → All (λ y. y.number < n) xs → AllPairs differ xs → All (λ f. n ≤ f.number) es → AllPairs (λ e f. e.number < f.number) es → AllPairs differ (placed_onto xs es)
placed_onto_differ xs [] n low apart high up = apart
placed_onto_differ xs (e ∷ es) n low apart high up =
    let first : n ≤ e.number = high 0 e (omega arith) in
    placed_onto_differ (placed e xs) es (e.number + 1)
    (placed_all (λ y. y.number < e.number + 1) e xs (omega arith) (λ k d lt. let one = low k d lt in omega arith))
    (placed_differ e xs (λ k d lt. let one = low k d lt in omega arith) apart)
    (λ k d lt. let above = pairs_head (λ x y. x.number < y.number) e es up k d lt in omega arith)
    (pairs_tail (λ x y. x.number < y.number) e es up)

pub live_differ : (entries : List Entry) (reversals : List (ℕ × ℕ)) → AllPairs (λ e f. e.number < f.number) entries → AllPairs differ (live_entries entries reversals)
unfolding live_entries
live_differ entries reversals up =
    placed_onto_differ [] (filter (is_live reversals) entries) 0 (λ k d lt. absurd (omega arith)) (λ i j d lt within. absurd (omega arith)) (λ k d lt. omega arith) (AllPairs-filter (λ e f. e.number < f.number) (is_live reversals) entries up)

-- ---- an entry that no reversal names is among them

filter_there : (p : Entry → Bool) (xs : List Entry) (e : Entry) (k : ℕ) → k < length xs → get_or xs k e ≡ e → p e ≡ true → Contains (filter p xs) e
filter_there p [] e k lt is passes = absurd (omega arith)
filter_there p (x ∷ xs) e zero lt is passes =
    let first : p x ≡ true = ap p is ∙ passes in
    rw first (0, omega arith, is)
filter_there p (x ∷ xs) e (suc k) lt is passes =
    let rest = filter_there p xs e k (omega arith) is passes in
    elim (p x) as (λ v. Contains (cond v (x ∷ filter p xs) (filter p xs)) e) [
      | true ↦ (suc rest.0, omega (arith, rest.1), rest.2)
      | false ↦ rest
    ]

pub live_there : (entries : List Entry) (reversals : List (ℕ × ℕ)) (e : Entry) (k : ℕ) → k < length entries → get_or entries k e ≡ e → is_reversed reversals e.number ≡ false → Contains (live_entries entries reversals) e
live_there entries reversals e k lt is free =
    let passes : is_live reversals e ≡ true = rw free in
    Contains-permutation (filter (is_live reversals) entries) (live_entries entries reversals) e (live_moves entries reversals) (filter_there (is_live reversals) entries e k lt is passes)

-- ---- its place

not_itself : (e : Entry) → is_before e e ≡ false
not_itself e = grind (arith, nat_tests)

tied : (a b : Entry) → is_before a b ≡ false → is_before b a ≡ false → a.number ≡ b.number
tied a b h g = grind (arith, nat_tests)

earlier_too : (a b e : Entry) → is_before b a ≡ false → is_before b e ≡ true → is_before a e ≡ true
earlier_too a b e h g = grind (arith, nat_tests)

-- what stands before an entry that takes effect before e, takes effect before e too
pub before_partitioned : (e : Entry) (xs : List Entry) → AllPairs follows xs → IsPartitionedBy (λ x. is_before x e) xs
before_partitioned e xs h i j d le within later =
    elim (nat_lt i j) as (λ v. nat_lt i j ≡ v → is_before (get_or xs i d) e ≡ true) [
      | true ↦ λ lt. earlier_too (get_or xs i d) (get_or xs j d) e (h i j d (grind (arith, nat_tests)) within) later
      | false ↦ λ ge. let same : i ≡ j = grind (arith, nat_tests) in rw same later
    ] refl

place_is : (xs : List Entry) (e : Entry) (i j : ℕ) → AllPairs follows xs → AllPairs differ xs → j < length xs → get_or xs j e ≡ e → IsPartitionPoint (λ x. is_before x e ≡ true) (λ x. is_before x e ≡ false) xs i → i ≡ j
place_is xs e i j order apart within is point =
    elim (nat_lt j i) as (λ v. nat_lt j i ≡ v → i ≡ j) [
      | true ↦ λ lt.
          let first : is_before (get_or xs j e) e ≡ true = point.0 j e (omega arith) (grind (arith, nat_tests)) in
          let same : is_before e e ≡ true = rw is at first in
          let never = not_itself e in
          absurd (let wrong : true ≡ false = cc in cc)
      | false ↦ λ ge.
          elim (nat_lt i j) as (λ v. nat_lt i j ≡ v → i ≡ j) [
            | true ↦ λ lt.
                let less : i < j = grind (arith, nat_tests) in
                let second = point.1 i e (omega arith) (omega arith) in
                let third : is_before e (get_or xs i e) ≡ false = rw is at (order i j e less within) in
                let other : (get_or xs i e).number ≢ e.number = rw is at (apart i j e less within) in
                absurd (other (tied (get_or xs i e) e second third))
            | false ↦ λ ge'. grind (arith, nat_tests)
          ] refl
    ] refl

-- ---- what is left without it

filter_others : (xs : List Entry) (n : ℕ) → All (λ x. (n == x.number) ≡ false) xs → filter (λ x. not (n == x.number)) xs ≡ xs
filter_others [] n h = refl
filter_others (x ∷ xs) n h =
    let first = All-head (λ (y : Entry). (n == y.number) ≡ false) x xs h in
    rw first (ap (λ ys. x ∷ ys) (filter_others xs n (All-tail (λ (y : Entry). (n == y.number) ≡ false) x xs h)))

number_differs : (n a b : ℕ) → a ≡ n → a ≢ b → (n == b) ≡ false
number_differs n a b is other = grind (arith, nat_tests)

filter_one : (xs : List Entry) (n i : ℕ) (e : Entry) → AllPairs differ xs → i < length xs → (get_or xs i e).number ≡ n → filter (λ x. not (n == x.number)) xs ≡ remove xs i
filter_one [] n i e apart lt is = absurd (omega arith)
filter_one (x ∷ xs) n zero e apart lt is =
    let same : (n == x.number) ≡ true = grind (arith, nat_tests) in
    rw same (filter_others xs n (λ k d within. number_differs n x.number (get_or xs k d).number is (pairs_head differ x xs apart k d within)))
filter_one (x ∷ xs) n (suc i) e apart lt is =
    let other = pairs_head differ x xs apart i e (omega arith) in
    let no : (n == x.number) ≡ false = grind (arith, nat_tests) in
    rw no (ap (λ ys. x ∷ ys) (filter_one xs n i e (pairs_tail differ x xs apart) (omega arith) is))

-- at the partition point stands the entry
pub place_within : (xs : List Entry) (e : Entry) (i : ℕ) → AllPairs follows xs → AllPairs differ xs → Contains xs e → IsPartitionPoint (λ x. is_before x e ≡ true) (λ x. is_before x e ≡ false) xs i → i < length xs
place_within xs e i order apart there point =
    let at = place_is xs e i there.0 order apart there.1 there.2 point in
    let within = there.1 in
    omega arith

pub left_at : (xs : List Entry) (e : Entry) (i : ℕ) → AllPairs follows xs → AllPairs differ xs → Contains xs e → IsPartitionPoint (λ x. is_before x e ≡ true) (λ x. is_before x e ≡ false) xs i → filter (λ x. not (e.number == x.number)) xs ≡ remove xs i
left_at xs e i order apart there point =
    let at = place_is xs e i there.0 order apart there.1 there.2 point in
    filter_one xs e.number there.0 e apart there.1 (ap (λ (x : Entry). x.number) there.2) ∙ ap (remove xs) (sym at)

-- the entries that are left have other numbers
pub left_without : (xs ys left : List Entry) (n number i : ℕ) → n ≡ number → ys ≡ xs → left ≡ remove xs i → remove ys i ≡ filter (λ x. not (n == x.number)) ys → left ≡ filter (λ x. not (number == x.number)) xs
left_without xs ys left n number i is same taken others =
    taken ∙ ap (λ zs. remove zs i) (sym same) ∙ others ∙ ap (λ zs. filter (λ x. not (n == x.number)) zs) same ∙ ap (λ m. filter (λ x. not (m == x.number)) xs) is
