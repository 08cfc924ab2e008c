-- One command more: what is found of the first commands of a history, and of the next one.
use Rattle.std.proofs.Common.{◌≡◌, ℕ, zero, suc, ◌+◌, ◌-◌, ◌≤◌, ◌<◌, min, Bool, true, false, cond, List, [], ◌∷◌, ◌++◌, map, length, take, get_or, arith, refl, sym, ap, ◌∙◌, add-one, length-append}
use Rattle.std.specs.Prelude.{slice_get, fold, if◌then◌else◌, Option, Some, None}
use Rattle.std.specs.List.{filter}
use Rattle.std.proofs.lemmas.List.{take_all, map-append}
use Rattle.std.proofs.lemmas.List.Elements.{filter-append}
use Rattle.std.proofs.lemmas.List.Sums.{fold-append}
use Rattle.std.proofs.lemmas.List.FromFn.{map-range_with_len_more, get_or-map-range_with_len, length-map-range_with_len}
use Rattle.svc_types.specs.declared.requests.Command.{Command}
use Rattle.svc_types.specs.declared.requests.Command.TheVariants as command
use Rattle.svc_world.proofs.TakenLemmas.{listed, taken}
use Rattle.svc_world.specs.World.{Accepted}
use Rattle.svc_world.specs.Judging.{nth_accepted}
use Rattle.servicing_transfer.specs.Parts.{with_board, least_month, is_part, months_for, place_in, renumbered, moved_to}
use Rattle.servicing_transfer.specs.Numbers.{numbers_after, numbers_with, loans_of}
use Rattle.servicing_transfer.specs.Passes.{least_with, keeps, part_with, places_to, place_among}

-- ---- the least boarded month

abbrev step : (ℕ → Bool) → Option ℕ → Accepted → Option ℕ
step set least a = with_board set least a.command

with_listed : (set : ℕ → Bool) (least : Option ℕ) (o : Option Accepted) → fold (step set) least (listed o) ≡ least_with set least o
unfolding listed
with_listed set least None = refl
with_listed set least (Some a) = refl

pub least_more : (set : ℕ → Bool) (h : List Accepted) (n : ℕ) → least_month set (take (n + 1) h) ≡ least_with set (least_month set (take n h)) (nth_accepted h (n + 1))
least_more set h n =
    ap (least_month set) (taken h n)
    ∙ fold-append (step set) None (take n h) (listed (nth_accepted h (n + 1)))
    ∙ with_listed set (least_month set (take n h)) (nth_accepted h (n + 1))

-- ---- the numbers of loans

abbrev board : List ℕ → Accepted → List ℕ
board ns a = numbers_after ns a.command

with_boarded : (ns : List ℕ) (o : Option Accepted) → fold board ns (listed o) ≡ numbers_with ns o
unfolding listed
with_boarded ns None = refl
with_boarded ns (Some a) = refl

pub numbers_more : (h : List Accepted) (n : ℕ) → loans_of (take (n + 1) h) ≡ numbers_with (loans_of (take n h)) (nth_accepted h (n + 1))
numbers_more h n =
    ap loans_of (taken h n)
    ∙ fold-append board [] (take n h) (listed (nth_accepted h (n + 1)))
    ∙ with_boarded (loans_of (take n h)) (nth_accepted h (n + 1))

-- ---- places

kept_length : (set months : ℕ → Bool) (o : Option Accepted) → length (filter (is_part set months) (listed o)) ≡ (if keeps set months o then 1 else 0)
unfolding listed
kept_length set months None = refl
kept_length set months (Some a) = elim (is_part set months a) as (λ v. length (cond v (a ∷ []) []) ≡ (if v then 1 else 0)) [ true ↦ refl | false ↦ refl ]

-- the place of the next number
pub place_more : (set : ℕ → Bool) (h : List Accepted) (n : ℕ) → place_in set h (n + 1) ≡ place_in set h n + (if keeps set (months_for set h) (nth_accepted h (n + 1)) then 1 else 0)
place_more set h n =
    let p = is_part set (months_for set h) in
    let next = listed (nth_accepted h (n + 1)) in
    ap (λ x. length (filter p x)) (taken h n)
    ∙ ap length (filter-append p (take n h) next)
    ∙ length-append (filter p (take n h)) (filter p next)
    ∙ ap (λ k. place_in set h n + k) (kept_length set (months_for set h) (nth_accepted h (n + 1)))

pub place_kept : (set : ℕ → Bool) (h : List Accepted) (n : ℕ) → keeps set (months_for set h) (nth_accepted h (n + 1)) ≡ true → place_in set h (n + 1) ≡ place_in set h n + 1
place_kept set h n is = place_more set h n ∙ ap (λ v. place_in set h n + (if v then 1 else 0)) is

pub place_left : (set : ℕ → Bool) (h : List Accepted) (n : ℕ) → keeps set (months_for set h) (nth_accepted h (n + 1)) ≡ false → place_in set h (n + 1) ≡ place_in set h n
place_left set h n is = let e = place_more set h n ∙ ap (λ v. place_in set h n + (if v then 1 else 0)) is in omega (arith, e)

pub places_more : (set : ℕ → Bool) (h : List Accepted) (n place : ℕ) → place ≡ place_in set h (n + 1) → places_to set h n ++ place ∷ [] ≡ places_to set h (n + 1)
places_more set h n place e =
    ap (λ x. places_to set h n ++ x ∷ []) e ∙ sym (map-range_with_len_more (place_in set h) 0 (n + 1) (n + 1) (omega arith))

-- a number beyond the last has the place of the last
place_past : (set : ℕ → Bool) (h : List Accepted) (n : ℕ) → place_in set h (min n (length h)) ≡ place_in set h n
place_past set h n =
    elim (Rattle.std.specs.Prelude.nat_le n (length h)) as (λ v. Rattle.std.specs.Prelude.nat_le n (length h) ≡ v → place_in set h (min n (length h)) ≡ place_in set h n) [
      | true ↦ λ e. let le : n ≤ length h = grind (arith, Rattle.std.proofs.lemmas.Bool.Decides.nat_tests) in let same : min n (length h) ≡ n = omega arith in ap (place_in set h) same
      | false ↦ λ e.
          let gt : length h < n = grind (arith, Rattle.std.proofs.lemmas.Bool.Decides.nat_tests) in
          let same : min n (length h) ≡ length h = omega arith in
          ap (place_in set h) same
          ∙ ap (λ x. length (filter (is_part set (months_for set h)) x)) (take_all (length h) h (omega arith) ∙ sym (take_all n h (omega arith)))
    ] refl

pub among_is : (set : ℕ → Bool) (h : List Accepted) (places : List ℕ) (n : ℕ) → places ≡ places_to set h (length h) → place_among places n ≡ place_in set h n
among_is set h places n e =
    let count : length (places_to set h (length h)) ≡ length h + 1 = length-map-range_with_len (place_in set h) 0 (length h + 1) in
    let last : length (places_to set h (length h)) - 1 ≡ length h = omega arith in
    ap (λ ps. place_among ps n) e
    ∙ ap (λ k. get_or (places_to set h (length h)) (min n k) 0) last
    ∙ get_or-map-range_with_len (place_in set h) 0 (length h + 1) (min n (length h)) (min n (length h)) 0 (omega arith) (omega arith)
    ∙ place_past set h n

-- ---- the part

renumbered_by : (p q : ℕ → ℕ) (c : Command) → ((n : ℕ) → p n ≡ q n) → renumbered p c ≡ renumbered q c
renumbered_by p q (command.Reverse id number) same = ap (command.Reverse id) (same number)
renumbered_by p q c same = refl

pub with_same : (set months : ℕ → Bool) (p q : ℕ → ℕ) (o : Option Accepted) → ((n : ℕ) → p n ≡ q n) → part_with set months p o ≡ part_with set months q o
with_same set months p q None same = refl
with_same set months p q (Some a) same = ap (λ c. if is_part set months a then record { key = a.key; command = c } ∷ [] else []) (renumbered_by p q a.command same)

-- the part of the first commands
abbrev pub part_to : (ℕ → Bool) → List Accepted → ℕ → List Accepted
part_to set h n = map (moved_to (place_in set h)) (filter (is_part set (months_for set h)) (take n h))

part_listed : (set months : ℕ → Bool) (place : ℕ → ℕ) (o : Option Accepted) → map (moved_to place) (filter (is_part set months) (listed o)) ≡ part_with set months place o
unfolding listed
part_listed set months place None = refl
part_listed set months place (Some a) = elim (is_part set months a) as (λ v. map (moved_to place) (cond v (a ∷ []) []) ≡ (if v then moved_to place a ∷ [] else [])) [ true ↦ refl | false ↦ refl ]

pub part_more : (set : ℕ → Bool) (h : List Accepted) (n : ℕ) → part_to set h n ++ part_with set (months_for set h) (place_in set h) (nth_accepted h (n + 1)) ≡ part_to set h (n + 1)
part_more set h n =
    let p = is_part set (months_for set h) in
    let next = listed (nth_accepted h (n + 1)) in
    let f = moved_to (place_in set h) in
    ap (λ x. part_to set h n ++ x) (sym (part_listed set (months_for set h) (place_in set h) (nth_accepted h (n + 1))))
    ∙ sym (map-append f (filter p (take n h)) (filter p next))
    ∙ ap (map f) (sym (filter-append p (take n h) next))
    ∙ ap (λ x. map f (filter p x)) (sym (taken h n))
