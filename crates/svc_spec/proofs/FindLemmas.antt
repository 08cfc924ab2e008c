-- The element with a number, where numbers rise; and the entry.
use Rattle.std.proofs.Common.{◌≡◌, ℕ, zero, suc, ◌≤◌, ◌<◌, true, false, List, [], ◌∷◌, length, get_or, arith, refl}
use Rattle.std.specs.Prelude.{◌==◌, nat_lt, Some, None}
use Rattle.std.specs.List.{All, AllPairs, find}
use Rattle.std.specs.List.Sorted.{IsPartitionedBy, IsPartitionPoint}
use Rattle.std.proofs.lemmas.Bool.Decides.{nat_tests}
use Rattle.svc_types.specs.declared.account.Entry.{Entry}
use Rattle.svc_types.proofs.OrderLemmas.{pairs_tail, pairs_head}

nat_same : (a b : ℕ) → a ≡ b → (a == b) ≡ true
nat_same a b h = grind (arith, nat_tests)

nat_apart : (a b : ℕ) → a < b → (a == b) ≡ false
nat_apart a b lt = grind (arith, nat_tests)

nat_later : (a b : ℕ) → b < a → (a == b) ≡ false
nat_later a b lt = grind (arith, nat_tests)

-- the numbers of a list's elements rise
abbrev pub Rises : {X : Type 0} → (X → ℕ) → List X → Type 0
Rises {X} f xs = AllPairs (λ (x y : X). f x < f y) xs

-- the element at a place is found by its number
pub found_at : {X : Type 0} (f : X → ℕ) (xs : List X) (n i : ℕ) (d : X) → Rises f xs → i < length xs → f (get_or xs i d) ≡ n → find (λ x. f x == n) xs ≡ Some (get_or xs i d)
found_at f [] n i d h lt is = absurd (omega arith)
found_at f (x ∷ xs) n zero d h lt is = rw (nat_same (f x) n is)
found_at f (x ∷ xs) n (suc i) d h lt is =
    let first : f x < f (get_or xs i d) = pairs_head (λ y z. f y < f z) x xs h i d (omega arith) in
    let other = nat_apart (f x) n (omega arith) in
    rw other (found_at f xs n i d (pairs_tail (λ y z. f y < f z) x xs h) (omega arith) is)

-- nothing is found where no element has the number
find_nothing : {X : Type 0} (f : X → ℕ) (xs : List X) (n : ℕ) → All (λ x. (f x == n) ≡ false) xs → find (λ x. f x == n) xs ≡ None
find_nothing f [] n h = refl
find_nothing f (x ∷ xs) n h =
    let first = h 0 x (omega arith) in
    rw first (find_nothing f xs n (λ k d lt. h (suc k) d (omega arith)))

from_nat_lt : (a b : ℕ) → nat_lt a b ≡ true → a < b
from_nat_lt a b h = grind (arith, nat_tests)

from_not_nat_lt : (a b : ℕ) → nat_lt a b ≡ false → b ≤ a
from_not_nat_lt a b h = grind (arith, nat_tests)

to_nat_lt : (a b : ℕ) → a < b → nat_lt a b ≡ true
to_nat_lt a b h = grind (arith, nat_tests)

-- lower numbers stand first
pub rising_partitioned : {X : Type 0} (f : X → ℕ) (xs : List X) (n : ℕ) → Rises f xs → IsPartitionedBy (λ x. nat_lt (f x) n) xs
rising_partitioned f xs n h i j d le within later =
    elim (nat_lt i j) as (λ v. nat_lt i j ≡ v → nat_lt (f (get_or xs i d)) n ≡ true) [
      | true ↦ λ lt.
          let rises = h i j d (from_nat_lt i j lt) within in
          let below = from_nat_lt (f (get_or xs j d)) n later in
          to_nat_lt (f (get_or xs i d)) n (omega arith)
      | false ↦ λ ge. let back = from_not_nat_lt i j ge in let same : i ≡ j = omega arith in rw same later
    ] refl

-- where the one at the place of a number has another number, or there is none, none has it
pub absent_at : {X : Type 0} (f : X → ℕ) (xs : List X) (n i : ℕ) → Rises f xs → IsPartitionPoint (λ x. nat_lt (f x) n ≡ true) (λ x. nat_lt (f x) n ≡ false) xs i → ((d : X) → i < length xs → (f (get_or xs i d) == n) ≡ false) → find (λ x. f x == n) xs ≡ None
absent_at f xs n i h point other = find_nothing f xs n (λ k d lt.
    elim (nat_lt k i) as (λ v. nat_lt k i ≡ v → (f (get_or xs k d) == n) ≡ false) [
      | true ↦ λ before. nat_apart (f (get_or xs k d)) n (from_nat_lt (f (get_or xs k d)) n (point.0 k d (omega arith) (from_nat_lt k i before)))
      | false ↦ λ after.
          elim (nat_lt i k) as (λ w. nat_lt i k ≡ w → (f (get_or xs k d) == n) ≡ false) [
            | true ↦ λ more.
                let rises = h i k d (from_nat_lt i k more) lt in
                let low = from_nat_lt i k more in
                let first = from_not_nat_lt (f (get_or xs i d)) n (point.1 i d (omega arith) (omega arith)) in
                nat_later (f (get_or xs k d)) n (omega arith)
            | false ↦ λ less.
                let low = from_not_nat_lt k i after in
                let high = from_not_nat_lt i k less in
                let same : k ≡ i = omega arith in
                rw same (other d (omega arith))
          ] refl
    ] refl)

-- ---- entries

pub find_there : (xs : List Entry) (n i : ℕ) (d : Entry) → AllPairs (λ e f. e.number < f.number) xs → i < length xs → (get_or xs i d).number ≡ n → find (λ e. e.number == n) xs ≡ Some (get_or xs i d)
find_there xs n i d h lt is = found_at (λ (e : Entry). e.number) xs n i d h lt is

pub number_partitioned : (xs : List Entry) (n : ℕ) → AllPairs (λ e f. e.number < f.number) xs → IsPartitionedBy (λ e. nat_lt e.number n) xs
number_partitioned xs n h = rising_partitioned (λ (e : Entry). e.number) xs n h

pub find_absent : (xs : List Entry) (n i : ℕ) → AllPairs (λ e f. e.number < f.number) xs → IsPartitionPoint (λ e. nat_lt e.number n ≡ true) (λ e. nat_lt e.number n ≡ false) xs i → ((d : Entry) → i < length xs → ((get_or xs i d).number == n) ≡ false) → find (λ e. e.number == n) xs ≡ None
find_absent xs n i h point other = absent_at (λ (e : Entry). e.number) xs n i h point other
