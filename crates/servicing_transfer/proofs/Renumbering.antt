-- Books are the same where entries have other numbers in the same order.
use Rattle.std.proofs.Common.{◌≡◌, ℕ, ◌+◌, ◌-◌, ◌≤◌, ◌<◌, Bool, true, false, cond, List, [], ◌∷◌, map, arith, refl, sym, ap, ◌∙◌}
use Rattle.std.specs.Prelude.{◌==◌, ◌||◌, ◌&&◌, not, nat_lt, if◌then◌else◌}
use Rattle.std.specs.List.{All, filter}
use Rattle.std.proofs.lemmas.List.Elements.{All-cons, All-head, All-tail, All-nil}
use Rattle.std.proofs.lemmas.Bool.Decides.{nat_tests}
use Rattle.svc_types.specs.declared.account.Entry.{Entry}
use Rattle.svc_types.specs.Live.{is_before, placed, placed_onto, is_reversed, is_live, live_entries}
use Rattle.svc_types.proofs.OrderLemmas.{placed_all}
use Rattle.svc_spec.specs.Events.{event_of, entry_events, up_to}
use Rattle.svc_spec.specs.Accounts.{Account, live_of, books_of}
use Rattle.svc_spec.proofs.SameLemmas.{books_same}

-- ---- numbers that are counted

-- a count never falls
abbrev pub Counts : (ℕ → ℕ) → Type 0
Counts place = (i j : ℕ) → i ≤ j → place i ≤ place j

-- a number is one of those that are counted
pub record IsCounted (place : ℕ → ℕ) (n : ℕ) : Type 0 where
  pub some : 1 ≤ n
  pub next : place n ≡ place (n - 1) + 1

counted_after : (place : ℕ → ℕ) (i j : ℕ) → Counts place → IsCounted place j → i < j → place i < place j
counted_after place i j counts is lt =
    let some = is.some in
    let less : place i ≤ place (j - 1) = counts i (j - 1) (omega arith) in
    omega (arith, less, is.next)

counted_lt : (place : ℕ → ℕ) (i j : ℕ) → Counts place → IsCounted place i → IsCounted place j → nat_lt (place i) (place j) ≡ nat_lt i j
counted_lt place i j counts is is' =
    elim (nat_lt i j) as (λ v. nat_lt i j ≡ v → nat_lt (place i) (place j) ≡ v) [
      | true ↦ λ e. let lt : i < j = grind (arith, nat_tests) in let more = counted_after place i j counts is' lt in grind (arith, nat_tests)
      | false ↦ λ e. let le : j ≤ i = grind (arith, nat_tests) in let more = counts j i le in grind (arith, nat_tests)
    ] refl

pub counted_eq : (place : ℕ → ℕ) (i j : ℕ) → Counts place → IsCounted place i → IsCounted place j → (place i == place j) ≡ (i == j)
counted_eq place i j counts is is' =
    elim (nat_lt i j) as (λ v. nat_lt i j ≡ v → (place i == place j) ≡ (i == j)) [
      | true ↦ λ e. let lt : i < j = grind (arith, nat_tests) in let more = counted_after place i j counts is' lt in apart lt more
      | false ↦ λ e. elim (nat_lt j i) as (λ v. nat_lt j i ≡ v → (place i == place j) ≡ (i == j)) [
        | true ↦ λ e'. let gt : j < i = grind (arith, nat_tests) in let more = counted_after place j i counts is gt in apart' gt more
        | false ↦ λ e'. let same : i ≡ j = grind (arith, nat_tests) in one same
      ] refl
    ] refl
  where
    apart : i < j → place i < place j → (place i == place j) ≡ (i == j)
    apart lt more =
        let a : (place i == place j) ≡ false = grind (arith, nat_tests) in
        let b : (i == j) ≡ false = grind (arith, nat_tests) in
        a ∙ sym b

    apart' : j < i → place j < place i → (place i == place j) ≡ (i == j)
    apart' lt more =
        let a : (place i == place j) ≡ false = grind (arith, nat_tests) in
        let b : (i == j) ≡ false = grind (arith, nat_tests) in
        a ∙ sym b

    one : i ≡ j → (place i == place j) ≡ (i == j)
    one same =
        let p : place i ≡ place j = ap place same in
        let a : (place i == place j) ≡ true = grind (arith, nat_tests) in
        let b : (i == j) ≡ true = grind (arith, nat_tests) in
        a ∙ sym b

-- ---- entries and accounts under other numbers

abbrev pub entry_at : (ℕ → ℕ) → Entry → Entry
entry_at place e = record e { number = place e.number }

-- both numbers of a reversal: the entry's, and that of the command that reversed it
abbrev pub pair_at : (ℕ → ℕ) → ℕ × ℕ → ℕ × ℕ
pair_at place r = (place r.0, place r.1)

abbrev pub account_at : (ℕ → ℕ) → Account → Account
account_at place a = record a { entries = map (entry_at place) a.entries; reversals = map (pair_at place) a.reversals }

abbrev pub IsCountedEntry : (ℕ → ℕ) → Entry → Type 0
IsCountedEntry place e = IsCounted place e.number

abbrev pub IsCountedPair : (ℕ → ℕ) → ℕ × ℕ → Type 0
IsCountedPair place r = IsCounted place r.0

-- the numbers of an account are counted
pub record AreCounted (place : ℕ → ℕ) (a : Account) : Type 0 where
  pub entries : All (IsCountedEntry place) a.entries
  pub reversals : All (IsCountedPair place) a.reversals

-- ---- live entries

before_at : (place : ℕ → ℕ) (a b : Entry) → Counts place → IsCountedEntry place a → IsCountedEntry place b → is_before (entry_at place a) (entry_at place b) ≡ is_before a b
before_at place a b counts ia ib = ap (λ v. nat_lt a.day b.day || ((a.day == b.day) && v)) (counted_lt place a.number b.number counts ia ib)

placed_at : (place : ℕ → ℕ) (e : Entry) (xs : List Entry) → Counts place → IsCountedEntry place e → All (IsCountedEntry place) xs → placed (entry_at place e) (map (entry_at place) xs) ≡ map (entry_at place) (placed e xs)
placed_at place e [] counts ie all = refl
placed_at place e (x ∷ xs) counts ie all =
    let here = before_at place e x counts ie (All-head (IsCountedEntry place) x xs all) in
    let rest = placed_at place e xs counts ie (All-tail (IsCountedEntry place) x xs all) in
    ap (λ v. if v then entry_at place e ∷ entry_at place x ∷ map (entry_at place) xs else entry_at place x ∷ placed (entry_at place e) (map (entry_at place) xs)) here
    ∙ elim (is_before e x) as (λ v. (if v then entry_at place e ∷ entry_at place x ∷ map (entry_at place) xs else entry_at place x ∷ placed (entry_at place e) (map (entry_at place) xs)) ≡ map (entry_at place) (if v then e ∷ x ∷ xs else x ∷ placed e xs)) [
      | true ↦ refl
      | false ↦ ap (λ ys. entry_at place x ∷ ys) rest
    ]

onto_at : (place : ℕ → ℕ) (o xs : List Entry) → Counts place → All (IsCountedEntry place) o → All (IsCountedEntry place) xs → placed_onto (map (entry_at place) o) (map (entry_at place) xs) ≡ map (entry_at place) (placed_onto o xs)
onto_at place o [] counts io all = refl
onto_at place o (x ∷ xs) counts io all =
    let here = All-head (IsCountedEntry place) x xs all in
    ap (λ ys. placed_onto ys (map (entry_at place) xs)) (placed_at place x o counts here io)
    ∙ onto_at place (placed x o) xs counts (placed_all (IsCountedEntry place) x o here io) (All-tail (IsCountedEntry place) x xs all)

reversed_at : (place : ℕ → ℕ) (rs : List (ℕ × ℕ)) (n : ℕ) → Counts place → IsCounted place n → All (IsCountedPair place) rs → is_reversed (map (pair_at place) rs) (place n) ≡ is_reversed rs n
reversed_at place [] n counts is all = refl
reversed_at place (r ∷ rs) n counts is all =
    let here = counted_eq place r.0 n counts (All-head (IsCountedPair place) r rs all) is in
    let rest = reversed_at place rs n counts is (All-tail (IsCountedPair place) r rs all) in
    ap (λ v. v || is_reversed (map (pair_at place) rs) (place n)) here ∙ ap (λ v. (r.0 == n) || v) rest

live_at : (place : ℕ → ℕ) (rs : List (ℕ × ℕ)) (xs : List Entry) → Counts place → All (IsCountedPair place) rs → All (IsCountedEntry place) xs → filter (is_live (map (pair_at place) rs)) (map (entry_at place) xs) ≡ map (entry_at place) (filter (is_live rs) xs)
live_at place rs [] counts ir all = refl
live_at place rs (x ∷ xs) counts ir all =
    let here = ap not (reversed_at place rs x.number counts (All-head (IsCountedEntry place) x xs all) ir) in
    let rest = live_at place rs xs counts ir (All-tail (IsCountedEntry place) x xs all) in
    ap (λ v. cond v (entry_at place x ∷ filter (is_live (map (pair_at place) rs)) (map (entry_at place) xs)) (filter (is_live (map (pair_at place) rs)) (map (entry_at place) xs))) here
    ∙ elim (is_live rs x) as (λ v. cond v (entry_at place x ∷ filter (is_live (map (pair_at place) rs)) (map (entry_at place) xs)) (filter (is_live (map (pair_at place) rs)) (map (entry_at place) xs)) ≡ map (entry_at place) (cond v (x ∷ filter (is_live rs) xs) (filter (is_live rs) xs))) [
      | true ↦ ap (λ ys. entry_at place x ∷ ys) rest
      | false ↦ rest
    ]

filtered_all : (P : Entry → Type 0) (p : Entry → Bool) (xs : List Entry) → All P xs → All P (filter p xs)
filtered_all P p [] h = h
filtered_all P p (x ∷ xs) h =
    let rest = filtered_all P p xs (All-tail P x xs h) in
    elim (p x) as (λ v. All P (cond v (x ∷ filter p xs) (filter p xs))) [
      | true ↦ All-cons P x (filter p xs) (All-head P x xs h) rest
      | false ↦ rest
    ]

-- the live entries are the same, under their new numbers
pub live_of_at : (place : ℕ → ℕ) (a : Account) → Counts place → AreCounted place a → live_of (account_at place a) ≡ map (entry_at place) (live_of a)
unfolding live_entries
live_of_at place a counts are =
    ap (placed_onto []) (live_at place a.reversals a.entries counts are.reversals are.entries)
    ∙ onto_at place [] (filter (is_live a.reversals) a.entries) counts (All-nil (IsCountedEntry place)) (filtered_all (IsCountedEntry place) (is_live a.reversals) a.entries are.entries)

events_at : (place : ℕ → ℕ) (xs : List Entry) → map event_of (map (entry_at place) xs) ≡ map event_of xs
events_at place [] = refl
events_at place (x ∷ xs) = ap (λ es. event_of x ∷ es) (events_at place xs)

-- the books at each day are the same
pub books_of_at : (place : ℕ → ℕ) (a : Account) (d : ℕ) → Counts place → AreCounted place a → books_of (account_at place a) d ≡ books_of a d
books_of_at place a d counts are =
    books_same a.terms (live_of (account_at place a)) (live_of a) d
    (ap (λ l. entry_events l d) (live_of_at place a counts are) ∙ ap (up_to d) (events_at place (live_of a)))
