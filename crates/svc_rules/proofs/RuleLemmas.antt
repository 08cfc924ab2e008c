-- The rules of a refusal, in their order.
use Rattle.std.proofs.Common.{◌≡◌, ℕ, suc, ◌+◌, ◌-◌, ◌≤◌, ◌<◌, min, Bool, true, false, cond, List, [], ◌∷◌, length, ℤ, pos, ◌≤ℤ◌, w64, to_z, of_z, arith, refl, ap, ◌∙◌}
use Rattle.std.specs.Prelude.{Option, Some, None, nat_le, is_some, IfSome, ◌||◌, ◌==◌, if◌then◌else◌}
use Rattle.std.specs.List.{find, filter, list_any}
use Rattle.std.specs.Option.{option_map}
use Rattle.std.proofs.lemmas.Bool.Decides.{nat_tests}
use Rattle.std.proofs.lemmas.Int.{ints}
use Rattle.svc_loan.proofs.ClosedLemmas.{cents_same}
use Rattle.svc_base.specs.Calendar.{months_end}
use Rattle.period_adjust.specs.Sealed.{Sealed, Reporting}
use Rattle.period_adjust.specs.Kept.{AreSealed}
use Rattle.period_adjust.specs.Conditions.{last_month, IsClosed}
use Rattle.period_adjust.proofs.SealedLemmas.{closed_to_last}
use Rattle.period_adjust.specs.Kept.{AreConsecutive}
use Rattle.svc_world.specs.Held.{find_loan}
use Rattle.svc_loan.specs.Kept.{KeptLoan}
use Rattle.svc_loan.specs.Loans.{find_kept, held_in}
use Rattle.svc_world.specs.Refusals.{Case, first_of, closed_from}

-- a rule that holds, and one that does not
pub first_holds : (c : Case) (cs : List Case) → c.holds ≡ true → first_of (c ∷ cs) ≡ Some c.why
first_holds c cs h = rw h refl

pub first_past : (c : Case) (cs : List Case) → c.holds ≡ false → first_of (c ∷ cs) ≡ first_of cs
first_past c cs h = rw h refl

pub is_some-find : {X : Type 0} (p : X → Bool) (xs : List X) → is_some (find p xs) ≡ list_any p xs
is_some-find p [] = refl
is_some-find p (x ∷ xs) = elim (p x) as (λ v. is_some (cond v (Some x) (find p xs)) ≡ (v || list_any p xs)) [
  | true ↦ refl
  | false ↦ is_some-find p xs
]

-- a balance that is no more than what was lent is a number of 64 bits
pub balance_same : (z most : ℤ) → pos 0 ≤ℤ z → z ≤ℤ most → most ≤ℤ pos 10_000_000_000 → to_z w64 (of_z w64 z) ≡ z
balance_same z most low high few = cents_same z (omega (arith, ints)) (omega (arith, ints))

-- ---- how many months are closed from one on

counted : (r : Sealed) (rs : List Sealed) (m : ℕ) → closed_from (r ∷ rs) m ≡ (if nat_le m r.month then 1 else 0) + closed_from rs m
counted r rs m = elim (nat_le m r.month) as (λ v. length (cond v (r ∷ filter (λ (x : Sealed). nat_le m x.month) rs) (filter (λ (x : Sealed). nat_le m x.month) rs)) ≡ (if v then 1 else 0) + closed_from rs m) [
  | true ↦ omega arith
  | false ↦ omega arith
]

one_more_from : (r : Sealed) (rs : List Sealed) (m : ℕ) → closed_from rs m ≡ min (length rs) (r.month + 1 + length rs - m) → closed_from (r ∷ rs) m ≡ min (suc (length rs)) (r.month + suc (length rs) - m)
one_more_from r rs m rest =
    elim (nat_le m r.month) as (λ v. nat_le m r.month ≡ v → closed_from (r ∷ rs) m ≡ min (suc (length rs)) (r.month + suc (length rs) - m)) [
      | true ↦ λ e.
          let le : m ≤ r.month = grind (arith, nat_tests) in
          let one = counted r rs m ∙ ap (λ v. (if v then 1 else 0) + closed_from rs m) e in
          omega (arith, one, rest, le)
      | false ↦ λ e.
          let lt : r.month < m = grind (arith, nat_tests) in
          let none = counted r rs m ∙ ap (λ v. (if v then 1 else 0) + closed_from rs m) e in
          omega (arith, none, rest, lt)
    ] refl

from_first : (r : Sealed) (rs : List Sealed) (m : ℕ) → AreConsecutive (r ∷ rs) → closed_from (r ∷ rs) m ≡ min (suc (length rs)) (r.month + suc (length rs) - m)
from_first r [] m h = one_more_from r [] m (omega arith)
from_first r (s ∷ ss) m h =
    let next : s.month ≡ r.month + 1 = h.0 in
    let more = from_first s ss m h.1 in
    one_more_from r (s ∷ ss) m (omega (arith, next, more))

last_is : (r : Sealed) (rs : List Sealed) (last : ℕ) → AreConsecutive (r ∷ rs) → last_month (r ∷ rs) ≡ Some last → last + 1 ≡ r.month + suc (length rs)
last_is r [] last h e = (let same : r.month ≡ last = cc in omega arith)
last_is r (s ∷ ss) last h e = (let next : s.month ≡ r.month + 1 = h.0 in let more = last_is s ss last h.1 e in omega (arith, next, more))

pub closed_from_is : (rs : List Sealed) (last m : ℕ) → AreConsecutive rs → last_month rs ≡ Some last → min (length rs) (last + 1 - m) ≡ closed_from rs m
closed_from_is [] last m h e = absurd (cc)
closed_from_is (r ∷ rs) last m h e = (let l = last_is r rs last h e in let f = from_first r rs m h in omega (arith, l, f))

pub none_closed_from : (rs : List Sealed) (m : ℕ) → last_month rs ≡ None → closed_from rs m ≡ 0
none_closed_from [] m e = refl
none_closed_from (r ∷ rs) m e = absurd (some r rs e)
  where
    some : (r : Sealed) (rs : List Sealed) → last_month (r ∷ rs) ≡ None → ⊥
    some r [] e = cc
    some r (s ∷ ss) e = some s ss e

-- ---- the loans that are kept

pub find-held : (ks : List KeptLoan) (id : ℕ) → find_loan id (held_in ks) ≡ option_map (λ (k : KeptLoan). k.held) (find_kept id ks)
find-held [] id = refl
find-held (k ∷ ks) id = elim (k.held.id == id) as (λ v. cond v (Some k.held) (find_loan id (held_in ks)) ≡ option_map (λ (j : KeptLoan). j.held) (cond v (Some k) (find_kept id ks))) [
  | true ↦ refl
  | false ↦ find-held ks id
]

pub some-mapped : {X Y : Type 0} (f : X → Y) (o : Option X) → is_some (option_map f o) ≡ is_some o
some-mapped f None = refl
some-mapped f (Some x) = refl

-- ---- a closed month does not end the calendar where the last closed one does not

pub closed_ends : (s : Reporting) (month : ℕ) → AreSealed s → IsClosed s.reports month → is_some (last_month s.reports) ≡ true → IfSome (last_month s.reports) (λ last. last + 1 < months_end) → month + 1 < months_end
closed_ends s month sealed is some ended = at (last_month s.reports) refl some ended
  where
    at : (o : Option ℕ) → last_month s.reports ≡ o → is_some o ≡ true → IfSome o (λ last. last + 1 < months_end) → month + 1 < months_end
    at None e none end = absurd (cc)
    at (Some last) e there end = (let le = closed_to_last s last month sealed e is in omega (arith, le, end))
