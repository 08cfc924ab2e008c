-- Without a refusal no rule holds: what each command's rules leave.
use Rattle.std.proofs.Common.{◌≡◌, ℕ, suc, ◌+◌, ◌-◌, ◌≤◌, ◌<◌, Bool, true, false, not, List, [], ◌∷◌, ◌++◌, length, max, arith, refl}
use Rattle.std.specs.Prelude.{nat_le, ◌&&◌, Option, Some, None, IfSome, ℤ, pos, ◌≤ℤ◌, int_le, if◌then◌else◌}
use Rattle.std.specs.List.{find, filter}
use Rattle.std.specs.Option.{option_map, option_map_or}
use Rattle.std.proofs.lemmas.Bool.Decides.{nat_tests}
use Rattle.svc_base.proofs.CentsRules.{from_int_le}
use Rattle.svc_base.specs.Calendar.{month_of}
use Rattle.svc_types.specs.declared.replies.Refusal.{Refusal}
use Rattle.svc_types.specs.declared.replies.Refusal.TheVariants.{NoSuchLoan}
use Rattle.period_adjust.specs.Sealed.{Sealed}
use Rattle.period_adjust.specs.Conditions.{last_month, count_held, first_month}
use Rattle.period_adjust.specs.Kept.{AreConsecutive, month_after}
use Rattle.period_adjust.proofs.KeptLemmas.{month_after-last}
use Rattle.svc_world.specs.Held.{Held, find_loan}
use Rattle.svc_world.specs.World.{World}
use Rattle.svc_world.specs.Refusals.{Case, case, case_of, first_of, on_loan, full_of_entries, bad_amount, future_dated, before_boarding, closed_from, adjustments_full, with_last, dated_cases, present_cases}

-- ---- the first of some rules

-- a rule does not hold, and none of the rest refuses
pub record IsPast (c : Case) (cs : List Case) : Type 0 where
  pub no : c.holds ≡ false
  pub rest : first_of cs ≡ None

pub past : (c : Case) (cs : List Case) → first_of (c ∷ cs) ≡ None → IsPast c cs
past c cs e =
    elim c.holds as (λ v. c.holds ≡ v → option_map (λ (x : Case). x.why) (if v then Some c else find (λ (x : Case). x.holds) cs) ≡ None → IsPast c cs) [
      | true ↦ λ is none. absurd (cc)
      | false ↦ λ is none. record { no = is; rest = none }
    ] refl e

-- there is no fault, and none of the rest refuses
pub record IsPastFault {A : Type 0} (o : Option A) (cs : List Case) : Type 0 where
  pub no : o ≡ None
  pub rest : first_of cs ≡ None

pub past_of : {A : Type 0} (why : A → Refusal) (o : Option A) (cs : List Case) → first_of (case_of why o ++ cs) ≡ None → IsPastFault o cs
past_of why None cs e = record { no = refl; rest = e }
past_of why (Some x) cs e = absurd (cc)

-- the loan is there, and its rules do not refuse
pub record IsOnLoan (w : World) (id : ℕ) (rules : Held → List Case) : Type 0 where
  pub loan : Held
  pub found : find_loan id w.loans ≡ Some loan
  pub rest : first_of (rules loan) ≡ None

pub past_loan : (w : World) (id : ℕ) (rules : Held → List Case) → first_of (on_loan w id rules) ≡ None → IsOnLoan w id rules
past_loan w id rules e =
    elim (find_loan id w.loans) as (λ o. find_loan id w.loans ≡ o → first_of (option_map_or rules o (case true NoSuchLoan ∷ [])) ≡ None → IsOnLoan w id rules) [
      | None ↦ λ is none. absurd (cc)
      | Some l ↦ λ is none. record { loan = l; found = is; rest = none }
    ] refl e

-- the month is after the last closed one, if one is closed
pub record IsPastLast (w : World) (month : ℕ) (cs : List Case) : Type 0 where
  pub later : IfSome (last_month w.seals.reports) (λ last. last < month)
  pub rest : first_of cs ≡ None

pub past_last : (why : ℕ → Refusal) (w : World) (month : ℕ) (cs : List Case) → first_of (with_last why w month ++ cs) ≡ None → IsPastLast w month cs
past_last why w month cs e =
    elim (last_month w.seals.reports) as (λ o. last_month w.seals.reports ≡ o → first_of (option_map_or (λ last. case (nat_le month last) (why last) ∷ []) o [] ++ cs) ≡ None → IsPastLast w month cs) [
      | None ↦ λ is none. record { later = (rw is tt); rest = none }
      | Some last ↦ λ is none.
          let p = past (case (nat_le month last) (why last)) cs none in
          let no = p.no in
          let lt : last < month = grind (arith, nat_tests) in
          record { later = (rw is lt); rest = p.rest }
    ] refl e

-- ---- the closed months from a month on

closed_count : (r : Sealed) (rs : List Sealed) (m : ℕ) → AreConsecutive (r ∷ rs) → r.month + suc (length rs) ≤ max m r.month + closed_from (r ∷ rs) m
closed_count r [] m c =
    elim (nat_le m r.month) as (λ v. nat_le m r.month ≡ v → r.month + 1 ≤ max m r.month + length (if v then r ∷ [] else [])) [
      | true ↦ λ e. let le : m ≤ r.month = grind (arith, nat_tests) in omega arith
      | false ↦ λ e. let lt : r.month < m = grind (arith, nat_tests) in omega arith
    ] refl
closed_count r (s ∷ rs) m c =
    let next : s.month ≡ r.month + 1 = c.0 in
    let more = closed_count s rs m c.1 in
    elim (nat_le m r.month) as (λ v. nat_le m r.month ≡ v → r.month + suc (suc (length rs)) ≤ max m r.month + length (if v then r ∷ filter (λ (x : Sealed). nat_le m x.month) (s ∷ rs) else filter (λ (x : Sealed). nat_le m x.month) (s ∷ rs))) [
      | true ↦ λ e. let le : m ≤ r.month = grind (arith, nat_tests) in omega (arith, more)
      | false ↦ λ e. let lt : r.month < m = grind (arith, nat_tests) in omega (arith, more)
    ] refl

-- where the first closed month is not after a month, as many are closed from that on as lie to the end
pub closed_enough : (reports : List Sealed) (m : ℕ) → AreConsecutive reports → IfSome (first_month reports) (λ first. first ≤ m) → month_after (last_month reports) - m ≤ closed_from reports m
closed_enough [] m c first = omega arith
closed_enough (r ∷ rs) m c first =
    let end = month_after-last r rs c in
    omega (arith, end, closed_count r rs m c)

-- ---- entries

-- an amount that an entry names: 1 to 10^10 cents
pub record IsEntered (z : ℤ) : Type 0 where
  pub low : pos 1 ≤ℤ z
  pub high : z ≤ℤ pos 10_000_000_000

-- there is room for an adjustment of each closed month from a month on
abbrev pub HasRoom : World → ℕ → Type 0
HasRoom w m = count_held w.seals + closed_from w.seals.reports m ≤ 4_000_000

-- what the rules of an entry of a day leave
pub record IsDated (w : World) (day : ℕ) (c : ℤ) (asked : Case) (l : Held) : Type 0 where
  pub entries : length l.account.entries < 4_096
  pub amount : IsEntered c
  pub until : day ≤ w.today
  pub since : l.account.terms.boarded ≤ day
  pub own : asked.holds ≡ false
  pub room : HasRoom w (month_of day)

pub room_left : (w : World) (m : ℕ) → first_of (adjustments_full w m ∷ []) ≡ None → HasRoom w m
room_left w m e = let no = (past (adjustments_full w m) [] e).no in grind (arith, nat_tests)

pub is_entered : (c : ℤ) → (bad_amount c).holds ≡ false → IsEntered c
is_entered c e =
    let b = both (int_le (pos 1) c) (int_le c (pos 10_000_000_000)) e in
    record { low = from_int_le (pos 1) c b.0; high = from_int_le c (pos 10_000_000_000) b.1 }
  where
    both : (a b : Bool) → not (a && b) ≡ false → (a ≡ true) × (b ≡ true)
    both true true e = (refl, refl)
    both true false e = absurd (cc)
    both false b e = absurd (cc)

pub dated : (w : World) (day : ℕ) (c : ℤ) (own : Held → Case) (l : Held) → first_of (dated_cases w day c own l) ≡ None → IsDated w day c (own l) l
dated w day c own l e =
    let one = past (full_of_entries l) (bad_amount c ∷ future_dated w day ∷ before_boarding l day ∷ own l ∷ adjustments_full w (month_of day) ∷ []) e in
    let two = past (bad_amount c) (future_dated w day ∷ before_boarding l day ∷ own l ∷ adjustments_full w (month_of day) ∷ []) one.rest in
    let three = past (future_dated w day) (before_boarding l day ∷ own l ∷ adjustments_full w (month_of day) ∷ []) two.rest in
    let four = past (before_boarding l day) (own l ∷ adjustments_full w (month_of day) ∷ []) three.rest in
    let five = past (own l) (adjustments_full w (month_of day) ∷ []) four.rest in
    let n1 = one.no in
    let n3 = three.no in
    let n4 = four.no in
    record {
      entries = grind (arith, nat_tests);
      amount = is_entered c two.no;
      until = grind (arith, nat_tests);
      since = grind (arith, nat_tests);
      own = five.no;
      room = room_left w (month_of day) five.rest;
    }

-- what the rules of an entry of the business day leave
pub record IsPresent (w : World) (c : ℤ) (asked : Case) (l : Held) : Type 0 where
  pub entries : length l.account.entries < 4_096
  pub amount : IsEntered c
  pub own : asked.holds ≡ false
  pub room : HasRoom w (month_of w.today)

pub present : (w : World) (c : ℤ) (own : Held → Case) (l : Held) → first_of (present_cases w c own l) ≡ None → IsPresent w c (own l) l
present w c own l e =
    let one = past (full_of_entries l) (bad_amount c ∷ own l ∷ adjustments_full w (month_of w.today) ∷ []) e in
    let two = past (bad_amount c) (own l ∷ adjustments_full w (month_of w.today) ∷ []) one.rest in
    let three = past (own l) (adjustments_full w (month_of w.today) ∷ []) two.rest in
    let n1 = one.no in
    record {
      entries = grind (arith, nat_tests);
      amount = is_entered c two.no;
      own = three.no;
      room = room_left w (month_of w.today) three.rest;
    }
