-- Loans by rising number: where one is found, and what a change of one, or one loan more, leaves.
use Rattle.std.proofs.Common.{◌≡◌, ◌≢◌, ℕ, zero, suc, ◌-◌, ◌≤◌, ◌<◌, true, false, cond, List, [], ◌∷◌, map, length, get_or, arith, refl, sym, ap, subst, ◌∙◌, Box, Global}
use Rattle.std.proofs.Math.ListN.{set}
use Rattle.std.proofs.Math.ListN.{get_or-map as get_mapped}
use Rattle.std.proofs.Math.Seq.{map-set_same}
use Rattle.std.specs.Prelude.{ℤ, ◌+ℤ◌, ◌==◌, nat_lt, Option, Some, None, Result, Ok, Err, OnOk, if◌then◌else◌}
use Rattle.std.specs.Box.{with_value}
use Rattle.std.specs.List.{All, find, insert}
use Rattle.std.specs.List.Sorted.{IsPartitionPoint}
use Rattle.std.specs.Option.{option_map}
use Rattle.std.proofs.lemmas.Bool.Decides.{nat_tests}
use Rattle.std.proofs.lemmas.List.{map-set, length-map, length-set, get_or-map, get_or-set_same, get_or_default}
use Rattle.std.proofs.lemmas.List.Edits.{length-insert, get_or-insert_at}
use Rattle.std.proofs.lemmas.List.Elements.{All-cons, All-head, All-tail, All-set}
use Rattle.std.proofs.lemmas.List.Kept.{AllPairs-cons}
use Rattle.svc_types.proofs.OrderLemmas.{pairs_head, pairs_tail}
use Rattle.svc_spec.proofs.FindLemmas.{Rises, found_at, absent_at}
use Rattle.svc_world.specs.Held.{Held, boarded_month, changed, with_loan}
use Rattle.svc_loan.specs.Kept.{KeptLoan, IsAhead, KeepsMonths}
use Rattle.svc_loan.specs.Loans.{Rise, AreLoans, OfLoan, IsPlaceIn, find_kept, with_kept, held_in, closed_in, remitted_in, remitted_by, first_boarded}
use Rattle.svc_loan.proofs.FirstLemmas.{first_changed}

-- ---- what stands behind pointers

-- the numbers rise behind pointers too
pub rise_behind : {X : Type 0} (v : X → KeptLoan) (xs : List X) → Rise (map v xs) → Rises (λ x. (v x).held.id) xs
rise_behind v xs h i j d lt within =
    let low = ap (λ (k : KeptLoan). k.held.id) (get_mapped v xs i d) in
    let high = ap (λ (k : KeptLoan). k.held.id) (get_mapped v xs j d) in
    let rises = h i j (v d) lt (omega (arith, length-map xs v)) in
    omega (arith, low, high, rises)

find_behind : {X : Type 0} (v : X → KeptLoan) (n : ℕ) (xs : List X) → find_kept n (map v xs) ≡ option_map v (find (λ x. (v x).held.id == n) xs)
find_behind v n [] = refl
find_behind v n (x ∷ xs) =
    elim ((v x).held.id == n) as (λ b. cond b (Some (v x)) (find_kept n (map v xs)) ≡ option_map v (cond b (Some x) (find (λ y. (v y).held.id == n) xs))) [
      | true ↦ refl
      | false ↦ find_behind v n xs
    ]

-- the loan at the place of its number is found
pub place_found : {X : Type 0} (v : X → KeptLoan) (xs : List X) (n i : ℕ) (d : X) → Rise (map v xs) → i < length xs → (v (get_or xs i d)).held.id ≡ n → find_kept n (map v xs) ≡ Some (v (get_or xs i d))
place_found v xs n i d h lt is =
    find_behind v n xs ∙ ap (option_map v) (found_at (λ x. (v x).held.id) xs n i d (rise_behind v xs h) lt is)

-- where another one stands there, or none, none has the number
pub place_absent : {X : Type 0} (v : X → KeptLoan) (xs : List X) (n i : ℕ) → Rise (map v xs) → IsPartitionPoint (λ x. nat_lt (v x).held.id n ≡ true) (λ x. nat_lt (v x).held.id n ≡ false) xs i → ((d : X) → i < length xs → ((v (get_or xs i d)).held.id == n) ≡ false) → find_kept n (map v xs) ≡ None
place_absent v xs n i h point other =
    find_behind v n xs ∙ ap (option_map v) (absent_at (λ x. (v x).held.id) xs n i (rise_behind v xs h) point other)

-- ---- one loan changed

-- loans with the numbers of others rise where these do
pub numbers_rise : (ks js : List KeptLoan) → map (λ (k : KeptLoan). k.held.id) ks ≡ map (λ (k : KeptLoan). k.held.id) js → Rise js → Rise ks
numbers_rise ks js same h i j d lt within =
    let f : KeptLoan → ℕ = λ k. k.held.id in
    let count : length ks ≡ length js = sym (length-map ks f) ∙ ap length same ∙ length-map js f in
    let low = sym (get_mapped f ks i d) ∙ ap (λ ns. get_or ns i (f d)) same ∙ get_mapped f js i d in
    let high = sym (get_mapped f ks j d) ∙ ap (λ ns. get_or ns j (f d)) same ∙ get_mapped f js j d in
    let rises = h i j d lt (omega (arith, count)) in
    omega (arith, low, high, rises)

set_held : (ks : List KeptLoan) (i id : ℕ) (d k : KeptLoan) (f : Held → Held) → Rise ks → i < length ks → (get_or ks i d).held.id ≡ id → k.held ≡ f (get_or ks i d).held → held_in (set ks i k) ≡ changed id f (held_in ks)
set_held [] i id d k f h lt is held = absurd (omega arith)
set_held (x ∷ xs) zero id d k f h lt is held =
    let here : (x.held.id == id) ≡ true = grind (arith, nat_tests) in
    rw here (ap (λ l. l ∷ held_in xs) held)
set_held (x ∷ xs) (suc i) id d k f h lt is held =
    let below = pairs_head (λ (a b : KeptLoan). a.held.id < b.held.id) x xs h i d (omega arith) in
    let other : (x.held.id == id) ≡ false = grind (arith, nat_tests) in
    rw other (ap (λ ls. x.held ∷ ls) (set_held xs i id d k f (pairs_tail (λ (a b : KeptLoan). a.held.id < b.held.id) x xs h) (omega arith) is held))

set_found : (ks : List KeptLoan) (i id : ℕ) (d k : KeptLoan) → Rise ks → i < length ks → (get_or ks i d).held.id ≡ id → k.held.id ≡ id → find_kept id (set ks i k) ≡ Some k
set_found [] i id d k h lt is same = absurd (omega arith)
set_found (x ∷ xs) zero id d k h lt is same =
    let here : (k.held.id == id) ≡ true = grind (arith, nat_tests) in
    rw here refl
set_found (x ∷ xs) (suc i) id d k h lt is same =
    let below = pairs_head (λ (a b : KeptLoan). a.held.id < b.held.id) x xs h i d (omega arith) in
    let other : (x.held.id == id) ≡ false = grind (arith, nat_tests) in
    rw other (set_found xs i id d k (pairs_tail (λ (a b : KeptLoan). a.held.id < b.held.id) x xs h) (omega arith) is same)

-- ---- one loan more

pub with_held : (k : KeptLoan) (ks : List KeptLoan) → held_in (with_kept k ks) ≡ with_loan k.held (held_in ks)
with_held k [] = refl
with_held k (j ∷ js) =
    elim (nat_lt k.held.id j.held.id) as (λ b. held_in (if b then k ∷ j ∷ js else j ∷ with_kept k js) ≡ (if b then k.held ∷ j.held ∷ held_in js else j.held ∷ with_loan k.held (held_in js))) [
      | true ↦ refl
      | false ↦ ap (λ ls. j.held ∷ ls) (with_held k js)
    ]

-- a loan put in at the place after lower numbers
pub placed_kept : {X : Type 0} (v : X → KeptLoan) (xs : List X) (i : ℕ) (x : X) → i ≤ length xs → IsPartitionPoint (λ y. nat_lt (v y).held.id (v x).held.id ≡ true) (λ y. nat_lt (v y).held.id (v x).held.id ≡ false) xs i → find_kept (v x).held.id (map v xs) ≡ None → map v (insert xs i x) ≡ with_kept (v x) (map v xs)
placed_kept v [] zero x le point none = refl
placed_kept v [] (suc i) x le point none = absurd (omega arith)
placed_kept v (y ∷ ys) zero x le point none =
    let from : nat_lt (v y).held.id (v x).held.id ≡ false = point.1 0 y (omega arith) (omega arith) in
    let other = not_first (v y) (map v ys) (v x).held.id none in
    let below : nat_lt (v x).held.id (v y).held.id ≡ true = grind (arith, nat_tests) in
    rw below refl
  where
    not_first : (j : KeptLoan) (js : List KeptLoan) (n : ℕ) → find_kept n (j ∷ js) ≡ None → (j.held.id == n) ≡ false
    not_first j js n = elim (j.held.id == n) as (λ b. cond b (Some j) (find_kept n js) ≡ None → b ≡ false) [
      | true ↦ λ e. absurd (cc)
      | false ↦ λ e. refl
    ]
placed_kept v (y ∷ ys) (suc i) x le point none =
    let first : nat_lt (v y).held.id (v x).held.id ≡ true = point.0 0 y (omega arith) (omega arith) in
    let above : nat_lt (v x).held.id (v y).held.id ≡ false = grind (arith, nat_tests) in
    let other : ((v y).held.id == (v x).held.id) ≡ false = grind (arith, nat_tests) in
    let rest : find_kept (v x).held.id (map v ys) ≡ None = past (v y) (map v ys) (v x).held.id other none in
    rw above (ap (λ ks. v y ∷ ks) (placed_kept v ys i x (omega arith) (λ k d low high. point.0 (suc k) d (omega arith) (omega arith), λ k d low high. point.1 (suc k) d (omega arith) (omega arith)) rest))
  where
    past : (j : KeptLoan) (js : List KeptLoan) (n : ℕ) → (j.held.id == n) ≡ false → find_kept n (j ∷ js) ≡ None → find_kept n js ≡ None
    past j js n apart e = rw apart at e

-- and it stands there
pub placed_there : {X : Type 0} (v : X → KeptLoan) (xs : List X) (i : ℕ) (x : X) → i ≤ length xs → Rise (map v (insert xs i x)) → IsPlaceIn (v x).held.id (map v (insert xs i x)) (Some i)
placed_there v xs i x le rise =
    let ys = insert xs i x in
    let long = length-insert xs i x le in
    let count = length-map ys v in
    let lt : i < length ys = omega (arith, long, le) in
    let found = place_found v ys (v x).held.id i x rise lt (ap (λ y. (v y).held.id) (get_or-insert_at xs i x x le)) in
    (omega (arith, count, lt), λ d. found ∙ ap Some (sym (get_or-map v ys i x d lt)))

-- another number stands at a place, whatever stands for a place that is not there
pub other_number : {X : Type 0} (f : X → ℕ) (xs : List X) (i n : ℕ) (x d : X) → i < length xs → f (get_or xs i x) ≢ n → (f (get_or xs i d) == n) ≡ false
other_number f xs i n x d lt apart =
    let same = ap f (get_or_default xs i d x lt) in
    rw same (grind (arith, nat_tests))

-- a loan whose number no other has, put in before the first larger number, leaves rising numbers
pub with_rises : (k : KeptLoan) (ks : List KeptLoan) → Rise ks → find_kept k.held.id ks ≡ None → Rise (with_kept k ks)
with_rises k [] h none = λ i j d lt within. absurd (omega arith)
with_rises k (j ∷ js) h none =
    let above = pairs_head (λ (a b : KeptLoan). a.held.id < b.held.id) j js h in
    let rest = pairs_tail (λ (a b : KeptLoan). a.held.id < b.held.id) j js h in
    let apart = head_apart j js k.held.id none in
    elim (nat_lt k.held.id j.held.id) as (λ b. nat_lt k.held.id j.held.id ≡ b → Rise (if b then k ∷ j ∷ js else j ∷ with_kept k js)) [
      | true ↦ λ e.
          let lt : k.held.id < j.held.id = grind (arith, nat_tests) in
          AllPairs-cons (λ (a b : KeptLoan). a.held.id < b.held.id) k (j ∷ js) (All-cons (λ (b : KeptLoan). k.held.id < b.held.id) j js lt (λ i d within. (let up = above i d within in omega arith))) h
      | false ↦ λ e.
          let ge : j.held.id < k.held.id = grind (arith, nat_tests) in
          AllPairs-cons (λ (a b : KeptLoan). a.held.id < b.held.id) j (with_kept k js) (with_above j.held.id k js ge above) (with_rises k js rest (tail_none j js k.held.id apart none))
    ] refl
  where
    head_apart : (j : KeptLoan) (js : List KeptLoan) (n : ℕ) → find_kept n (j ∷ js) ≡ None → (j.held.id == n) ≡ false
    head_apart j js n = elim (j.held.id == n) as (λ b. cond b (Some j) (find_kept n js) ≡ None → b ≡ false) [
      | true ↦ λ e. absurd (cc)
      | false ↦ λ e. refl
    ]

    tail_none : (j : KeptLoan) (js : List KeptLoan) (n : ℕ) → (j.held.id == n) ≡ false → find_kept n (j ∷ js) ≡ None → find_kept n js ≡ None
    tail_none j js n apart e = rw apart at e

    with_above : (n : ℕ) (k : KeptLoan) (js : List KeptLoan) → n < k.held.id → All (λ (b : KeptLoan). n < b.held.id) js → All (λ (b : KeptLoan). n < b.held.id) (with_kept k js)
    with_above n k [] lt all = All-cons (λ (b : KeptLoan). n < b.held.id) k [] lt all
    with_above n k (x ∷ xs) lt all = elim (nat_lt k.held.id x.held.id) as (λ b. All (λ (b : KeptLoan). n < b.held.id) (if b then k ∷ x ∷ xs else x ∷ with_kept k xs)) [
      | true ↦ All-cons (λ (b : KeptLoan). n < b.held.id) k (x ∷ xs) lt all
      | false ↦ All-cons (λ (b : KeptLoan). n < b.held.id) x (with_kept k xs) (All-head (λ (b : KeptLoan). n < b.held.id) x xs all) (with_above n k xs lt (All-tail (λ (b : KeptLoan). n < b.held.id) x xs all))
    ]

-- ---- the loan with a number

number_found : (n : ℕ) (ks : List KeptLoan) (k : KeptLoan) → find_kept n ks ≡ Some k → k.held.id ≡ n
number_found n [] k e = absurd (cc)
number_found n (j ∷ js) k e =
    elim (j.held.id == n) as (λ b. (j.held.id == n) ≡ b → cond b (Some j) (find_kept n js) ≡ Some k → k.held.id ≡ n) [
      | true ↦ λ same is. let jk : j ≡ k = cc in let here : j.held.id ≡ n = grind (arith, nat_tests) in ap (λ (x : KeptLoan). x.held.id) (sym jk) ∙ here
      | false ↦ λ other is. number_found n js k is
    ] refl e

-- what is asked of the loan with a number is asked of the one that is found
pub of_found : (P : KeptLoan → Type 0) (id : ℕ) (ks : List KeptLoan) (k : KeptLoan) → OfLoan id ks P → find_kept id ks ≡ Some k → P k
of_found P id ks k h found = rw found at h

pub found_of : (P : KeptLoan → Type 0) (id : ℕ) (ks : List KeptLoan) (k : KeptLoan) → P k → find_kept id ks ≡ Some k → OfLoan id ks P
found_of P id ks k h found = rw found h

-- ---- what is remitted for one loan

-- the loans after one have other numbers
later_remitted : (id : ℕ) (cents : ℤ) (ks : List KeptLoan) → All (λ (k : KeptLoan). id < k.held.id) ks → map (remitted_by id cents) ks ≡ remitted_in ks
later_remitted id cents [] h = refl
later_remitted id cents (k ∷ ks) h =
    let above : id < k.held.id = All-head (λ (x : KeptLoan). id < x.held.id) k ks h in
    let other : (k.held.id == id) ≡ false = grind (arith, nat_tests) in
    rw other (ap (λ zs. k.remitted ∷ zs) (later_remitted id cents ks (All-tail (λ (x : KeptLoan). id < x.held.id) k ks h)))

set_remitted : (ks : List KeptLoan) (i id : ℕ) (d k : KeptLoan) (cents : ℤ) → Rise ks → i < length ks → (get_or ks i d).held.id ≡ id → k.remitted ≡ (get_or ks i d).remitted +ℤ cents → remitted_in (set ks i k) ≡ map (remitted_by id cents) ks
set_remitted [] i id d k cents h lt is new = absurd (omega arith)
set_remitted (x ∷ xs) zero id d k cents h lt is new =
    let here : (x.held.id == id) ≡ true = grind (arith, nat_tests) in
    let above : All (λ (y : KeptLoan). id < y.held.id) xs = λ j e within. (let up = pairs_head (λ (a b : KeptLoan). a.held.id < b.held.id) x xs h j e within in omega (arith, up, is)) in
    rw here (ap (λ z. z ∷ remitted_in xs) new ∙ ap (λ zs. (x.remitted +ℤ cents) ∷ zs) (sym (later_remitted id cents xs above)))
set_remitted (x ∷ xs) (suc i) id d k cents h lt is new =
    let below = pairs_head (λ (a b : KeptLoan). a.held.id < b.held.id) x xs h i d (omega arith) in
    let other : (x.held.id == id) ≡ false = grind (arith, nat_tests) in
    rw other (ap (λ zs. x.remitted ∷ zs) (set_remitted xs i id d k cents (pairs_tail (λ (a b : KeptLoan). a.held.id < b.held.id) x xs h) (omega arith) is new))

pub on_ok : {T E : Type 0} (r : Result T E) (P Q : Type 0) → (P → Q) → OnOk r P → OnOk r Q
on_ok (Ok x) P Q f h = f h
on_ok (Err e) P Q f h = h

-- ---- room for business days and closed months

pub still_ahead : (u n : ℕ) (k j : KeptLoan) → IsAhead u n k → KeepsMonths 0 k j → IsAhead u n j
still_ahead u n k j h keeps = record { months = omega (arith, h.months, keeps.months); closing = omega (arith, h.closing, keeps.closing) }

pub one_closed : (u n : ℕ) (k j : KeptLoan) → IsAhead u n k → KeepsMonths 1 k j → IsAhead u (n - 1) j
one_closed u n k j h keeps = record { months = omega (arith, h.months, keeps.months); closing = omega (arith, h.closing, keeps.closing) }

pub none_ahead : (ks : List KeptLoan) → All (IsAhead 0 0) ks
none_ahead ks i d lt = record { months = omega arith; closing = omega arith }

-- a loan that is changed behind its pointer keeps what all have room for
pub ahead_at : {X : Type 0} (v : X → KeptLoan) (u n : ℕ) (xs : List X) (i : ℕ) (x y : X) (k : KeptLoan) → All (IsAhead u n) (map v xs) → i < length xs → k ≡ v (get_or xs i x) → KeepsMonths 0 k (v y) → All (IsAhead u n) (map v (set xs i y))
ahead_at v u n xs i x y k all lt is keeps =
    let here = all i (v x) (omega (arith, length-map xs v)) in
    let old : IsAhead u n k = subst (IsAhead u n) (get_mapped v xs i x ∙ sym is) here in
    rw (map-set v xs i y) (All-set (IsAhead u n) (map v xs) i (v y) (still_ahead u n k (v y) old keeps) all)

-- and one of which a month is closed keeps room for one closed month less
pub closed_at : {X : Type 0} (v : X → KeptLoan) (u n m : ℕ) (xs : List X) (i : ℕ) (y : X) (k : KeptLoan) → All (IsAhead u m) (map v xs) → m ≡ n - 1 → IsAhead u n k → KeepsMonths 1 k (v y) → All (IsAhead u m) (map v (set xs i y))
closed_at v u n m xs i y k all is old keeps = rw (map-set v xs i y) (All-set (IsAhead u m) (map v xs) i (v y) (subst (λ x. IsAhead u x (v y)) (sym is) (one_closed u n k (v y) old keeps)) all)

-- ---- a loan lent from its place

-- what a change leaves of a loan
pub record Leaves (k j : KeptLoan) (f : Held → Held) : Type 0 where
  pub held : j.held ≡ f k.held
  pub closed : j.closed ≡ k.closed
  pub months : KeepsMonths 0 k j

-- what it leaves of all loans, among which that one stands at the place of its number
pub record Left (until closings : ℕ) (first : Option ℕ) (ks js : List KeptLoan) (id i : ℕ) (k j : KeptLoan) (f : Held → Held) : Type 0 where
  pub kept : AreLoans until closings first js
  pub found : find_kept id js ≡ Some j
  pub place : IsPlaceIn id js (Some i)
  pub held : held_in js ≡ changed id f (held_in ks)
  pub closed : closed_in js ≡ closed_in ks
  pub remitted : j.remitted ≡ k.remitted → remitted_in js ≡ remitted_in ks
  pub remits : (cents : ℤ) → j.remitted ≡ k.remitted +ℤ cents → remitted_in js ≡ map (remitted_by id cents) ks

-- the number and the boarded month of each loan stay
pub record Keeps (f : Held → Held) : Type 0 where
  pub number : (l : Held) → (f l).id ≡ l.id
  pub boarded : (l : Held) → boarded_month (f l) ≡ boarded_month l

set_left : (u n : ℕ) (m : Option ℕ) (ks : List KeptLoan) (id i : ℕ) (d j : KeptLoan) (f : Held → Held) → Keeps f → AreLoans u n m ks → IsPlaceIn id ks (Some i) → Leaves (get_or ks i d) j f → Left u n m ks (set ks i j) id i (get_or ks i d) j f
set_left u n m ks id i d j f keeps h place leaves =
    let k = get_or ks i d in
    let within = place.0 in
    let count = length-set ks i j in
    let number = number_found id ks k (place.1 d) in
    let same : j.held.id ≡ k.held.id = ap (λ (l : Held). l.id) leaves.held ∙ keeps.number k.held in
    let held = set_held ks i id d j f h.rise within number leaves.held in
    let found = set_found ks i id d j h.rise within number (same ∙ number) in
    record {
      kept = record {
        rise = numbers_rise (set ks i j) ks (map-set_same (λ (x : KeptLoan). x.held.id) ks i j d same) h.rise;
        ahead = All-set (IsAhead u n) ks i j (still_ahead u n k j (h.ahead i d within) leaves.months) h.ahead;
        first = h.first ∙ sym (ap first_boarded held ∙ first_changed id f (held_in ks) keeps.boarded);
      };
      found = found;
      place = (omega (arith, count, within), λ e. found ∙ ap Some (sym (get_or-set_same ks i j e within)));
      held = held;
      closed = map-set_same (λ (x : KeptLoan). x.closed) ks i j d leaves.closed;
      remitted = λ is. map-set_same (λ (x : KeptLoan). x.remitted) ks i j d is;
      remits = λ cents is. set_remitted ks i id d j cents h.rise within number is;
    }

-- the loans behind their pointers
abbrev pub behind : List (Box KeptLoan Global) → List KeptLoan
behind bs = map (λ (b : Box KeptLoan Global). b.value) bs

-- of the loans behind their pointers one is lent, with its pointer, from the place of its number
pub record IsLent (ks : List KeptLoan) (bs : List (Box KeptLoan Global)) (id i : ℕ) (b : Box KeptLoan Global) (k : KeptLoan) : Type 0 where
  pub all : behind bs ≡ ks
  pub place : IsPlaceIn id ks (Some i)
  pub pointer : b ≡ get_or bs i b
  pub loan : k ≡ b.value

lent_at : (ks : List KeptLoan) (bs : List (Box KeptLoan Global)) (id i : ℕ) (b : Box KeptLoan Global) (k : KeptLoan) → IsLent ks bs id i b k → k ≡ get_or ks i b.value
lent_at ks bs id i b k h =
    let v : Box KeptLoan Global → KeptLoan = λ x. x.value in
    h.loan ∙ ap v h.pointer ∙ sym (get_mapped v bs i b) ∙ ap (λ xs. get_or xs i b.value) h.all

-- it is found by that number
pub lent_found : (ks : List KeptLoan) (bs : List (Box KeptLoan Global)) (id i : ℕ) (b : Box KeptLoan Global) (k : KeptLoan) → IsLent ks bs id i b k → find_kept id ks ≡ Some k
lent_found ks bs id i b k h = h.place.1 b.value ∙ ap Some (sym (lent_at ks bs id i b k h))

-- and what its change leaves, once another one is behind its pointer
pub lent_left : (u n : ℕ) (m : Option ℕ) (ks : List KeptLoan) (bs : List (Box KeptLoan Global)) (id i : ℕ) (b : Box KeptLoan Global) (k j : KeptLoan) (f : Held → Held) → Keeps f → AreLoans u n m (behind bs) → IsLent ks bs id i b k → Leaves k j f → Left u n m ks (behind (set bs i (with_value b j))) id i k j f
lent_left u n m ks bs id i b k j f keeps kept h leaves =
    let d = b.value in
    let at = lent_at ks bs id i b k h in
    let back : behind (set bs i (with_value b j)) ≡ set ks i j =
    map-set (λ (x : Box KeptLoan Global). x.value) bs i (with_value b j) ∙ ap (λ xs. set xs i j) h.all
    in
    let left = set_left u n m ks id i d j f keeps (subst (AreLoans u n m) h.all kept) h.place (subst (λ x. Leaves x j f) at leaves) in
    subst (λ js. Left u n m ks js id i k j f) (sym back) (subst (λ x. Left u n m ks (set ks i j) id i x j f) (sym at) left)

-- where books, lines and types stay, none is changed
pub none_changed : (id : ℕ) (ls : List Held) → changed id (λ l. l) ls ≡ ls
none_changed id [] = refl
none_changed id (l ∷ ls) =
    elim (l.id == id) as (λ b. (if b then l ∷ ls else l ∷ changed id (λ x. x) ls) ≡ l ∷ ls) [
      | true ↦ refl
      | false ↦ ap (λ xs. l ∷ xs) (none_changed id ls)
    ]
