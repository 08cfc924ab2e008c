-- The limits of what is carried of a loan and due for its months, and sums of dues.
use Rattle.std.proofs.Common.{◌≡◌, ℕ, zero, suc, ◌+◌, ◌-◌, ◌≤◌, ◌<◌, true, false, List, map, length, arith, refl, sym, ap, ◌∙◌}
use Rattle.std.specs.Prelude.{ℤ, pos, ◌+ℤ◌, ◌-ℤ◌, nat_lt}
use Rattle.std.specs.List.{range_with_len}
use Rattle.std.proofs.lemmas.Bool.Decides.{nat_tests}
use Rattle.std.proofs.lemmas.Int.{ints}
use Rattle.std.proofs.lemmas.List.Elements.{All-cons, All-nil}
use Rattle.svc_base.specs.Calendar.{month_of}
use Rattle.svc_base.specs.Sums.{total_by}
use Rattle.svc_types.specs.declared.terms.Terms.{Terms}
use Rattle.svc_types.specs.declared.terms.RemitType.{RemitType}
use Rattle.svc_types.specs.declared.terms.RemitType.TheVariants.{AA, SA, SS}
use Rattle.svc_types.specs.declared.books.Books.{Books}
use Rattle.svc_types.specs.declared.requests.TypeChange.{TypeChange}
use Rattle.svc_spec.specs.Books.{start}
use Rattle.svc_spec.specs.Accounts.{Account, IsAccount}
use Rattle.svc_spec.specs.Months.{end_day, books_at_end, month_facts, AreFacts}
use Rattle.svc_spec.proofs.AccountLemmas.{account_books}
use Rattle.svc_spec.proofs.FloorLemmas.{account_parts}
use Rattle.svc_spec.proofs.MonthLemmas.{boarded_some, before_boarded, from_boarded}
use Rattle.svc_spec.proofs.RiseLemmas.{account_rose, month_within}
use Rattle.remit_types.specs.declared.dues.Carry.{Carry}
use Rattle.remit_types.specs.Dues.{LoanMonth, carried_after, carried_first, passed_by}
use Rattle.remit_types.specs.Limits.{IsWithin, HasSums, AreWithin, AllWithin}
use Rattle.remit_types.proofs.LimitLemmas.{carried-within, carried-scheduled_low, carried-scheduled_high}
use Rattle.period_adjust.specs.Conditions.{IsSmallDue}
use Rattle.svc_world.specs.Held.{Held}
use Rattle.svc_world.specs.LoanDues.{month_of_loan, first_months, carried_to, carried_at, carry_of, due_of}
use Rattle.svc_world.specs.Custody.{due_sum}
use Rattle.svc_world.specs.Worlds.{IsLimited}
use Rattle.svc_world.proofs.SumsWithin.{IsUpTo}
use Rattle.svc_world.proofs.HoldingLemmas.{account_holdings}

-- ---- what was collected by the end of a month

pub start_interest : (t : Terms) → (start t).interest ≡ pos 0
unfolding start
start_interest t = refl

pub start_fee : (t : Terms) → (start t).fee ≡ pos 0
unfolding start
start_fee t = refl

-- interest less fee that the books have collected
abbrev pub kept : Books → ℤ
kept b = b.interest -ℤ b.fee

pub kept_start : (t : Terms) → kept (start t) ≡ pos 0
kept_start t = omega (arith, ints, start_interest t, start_fee t)

-- at the end of a month it is not above what was received
pub kept_within : (a : Account) (p : ℕ) → IsLimited a → IsUpTo 40_960_000_000_000 (kept (books_at_end a p))
kept_within a p h =
    elim (nat_lt p (month_of a.terms.boarded)) as (λ v. nat_lt p (month_of a.terms.boarded) ≡ v → IsUpTo 40_960_000_000_000 (kept (books_at_end a p))) [
      | true ↦ λ e.
          let first = before_boarded a p (grind (arith, nat_tests)) in
          let none = kept_start a.terms in
          rw first (record { low = omega (arith, ints, none); high = omega (arith, ints, none) })
      | false ↦ λ e.
          let last = from_boarded a p (grind (arith, nat_tests)) in
          let d = end_day a p in
          let parts = (account_parts a d h.account).fee in
          let fee = (account_books a d h.account).signs.fee in
          let rose = (account_rose a d a.today h.account (omega arith)).interest in
          let most = (account_holdings a h).interest.high in
          rw last (record { low = omega (arith, ints, parts); high = omega (arith, ints, rose, most, fee) })
    ] refl

-- ---- what is carried

-- one month more
pub carried_more : (a : Account) (types : List TypeChange) (n : ℕ) → carried_to a types (suc n) ≡ carried_after a.terms (carried_to a types n) (month_of_loan a types (month_of a.terms.boarded + n))
unfolding carried_to
carried_more a types n = refl

pub carried_none : (a : Account) (types : List TypeChange) → carried_to a types 0 ≡ carried_first a.terms
unfolding carried_to
carried_none a types = refl

pub actual_more : (t : Terms) (c : Carry) (m : LoanMonth) → (carried_after t c m).actual ≡ c.actual +ℤ (m.facts.interest -ℤ m.facts.fee)
unfolding carried_after
actual_more t c m = refl

pub passed_more : (t : Terms) (c : Carry) (m : LoanMonth) → (carried_after t c m).passed ≡ passed_by m.kind (carried_after t c m).actual (carried_after t c m).scheduled
unfolding carried_after
passed_more t c m = refl

-- the interest less fee that is carried is what the books at the month's end have collected
pub carried_kept : (a : Account) (types : List TypeChange) (n : ℕ) → IsAccount a → (carried_to a types n).actual ≡ kept (books_at_end a (month_of a.terms.boarded + n - 1))
carried_kept a types zero h =
    let b = month_of a.terms.boarded in
    let some = boarded_some a.terms.boarded h.boarded in
    let place : b + 0 - 1 ≡ b - 1 = omega arith in
    let first = before_boarded a (b - 1) (omega arith) in
    ap (λ (c : Carry). c.actual) (carried_none a types) ∙ sym (ap (λ p. kept (books_at_end a p)) place ∙ ap kept first ∙ kept_start a.terms)
carried_kept a types (suc n) h =
    let b = month_of a.terms.boarded in
    let some = boarded_some a.terms.boarded h.boarded in
    let place : b + suc n - 1 ≡ b + n = omega arith in
    let before = carried_kept a types n h in
    let more = ap (λ (c : Carry). c.actual) (carried_more a types n) ∙ actual_more a.terms (carried_to a types n) (month_of_loan a types (b + n)) in
    let now = ap (λ p. kept (books_at_end a p)) place in
    omega (arith, ints, before, more, now)

pub facts_within : (t : Terms) (f : _) → AreFacts t f → AreWithin t f
facts_within t f h = record { upb_low = h.upb_low; upb_high = h.upb_high; curtailed_low = h.curtailed_low; curtailed_high = h.curtailed_high; interest_low = h.interest_low; interest_high = h.interest_high; fee_low = h.fee_low; fee_high = h.fee_high }

-- the facts of all months lie within the limits
pub months_within : (a : Account) (types : List TypeChange) (n : ℕ) → IsAccount a → AllWithin a.terms (first_months a types n)
months_within a types zero h = All-nil (λ (m : LoanMonth). AreWithin a.terms m.facts)
months_within a types (suc n) h =
    let here = facts_within a.terms (month_facts a (month_of a.terms.boarded + n)) (month_within a (month_of a.terms.boarded + n) h (omega arith)) in
    All-cons (λ (m : LoanMonth). AreWithin a.terms m.facts) (month_of_loan a types (month_of a.terms.boarded + n)) (first_months a types n) here (months_within a types n h)

pub months_count : (a : Account) (types : List TypeChange) (n : ℕ) → length (first_months a types n) ≡ n
months_count a types zero = refl
months_count a types (suc n) = omega (arith, months_count a types n)

-- what is carried of an account within the limits
pub record IsCarryWithin (t : Terms) (c : Carry) : Type 0 where
  pub within : IsWithin t c
  pub actual : IsUpTo 40_960_000_000_000 c.actual
  pub scheduled : IsUpTo 40_960_000_000_000 c.scheduled
  pub passed : IsUpTo 40_960_000_000_000 c.passed

pub passed_within : (m : ℕ) (kind : RemitType) (x y : ℤ) → IsUpTo m x → IsUpTo m y → IsUpTo m (passed_by kind x y)
passed_within m AA x y h k = h
passed_within m SA x y h k = k
passed_within m SS x y h k = k

pub carried_passed : (m : ℕ) (a : Account) (types : List TypeChange) (n : ℕ) → IsUpTo m (carried_to a types n).actual → IsUpTo m (carried_to a types n).scheduled → IsUpTo m (carried_to a types n).passed
carried_passed m a types zero h k = rw (carried_none a types) (record { low = omega (arith, ints); high = omega (arith, ints) })
carried_passed m a types (suc n) h k =
    let t = a.terms in
    let c = carried_to a types n in
    let l = month_of_loan a types (month_of a.terms.boarded + n) in
    let more = carried_more a types n in
    let h' = rw more at h in
    let k' = rw more at k in
    rw (more, passed_more t c l) (passed_within m l.kind (carried_after t c l).actual (carried_after t c l).scheduled h' k')

-- up to 2,000 months
pub carry_within : (a : Account) (types : List TypeChange) (n : ℕ) → n ≤ 2_000 → IsLimited a → IsCarryWithin a.terms (carried_to a types n)
unfolding carried_to
carry_within a types n few h =
    let t = a.terms in
    let months = first_months a types n in
    let all = months_within a types n h.account in
    let count = months_count a types n in
    let within = carried-within t months h.account.terms all in
    let kept' = carried_kept a types n h.account in
    let limit = kept_within a (month_of t.boarded + n - 1) h in
    let l1 = limit.low in let l2 = limit.high in
    let s1 = carried-scheduled_low t months h.account.terms in
    let s2 = carried-scheduled_high t months h.account.terms all in
    let actual : IsUpTo 40_960_000_000_000 (carried_to a types n).actual = record { low = omega (arith, ints, kept', l1); high = omega (arith, ints, kept', l2) } in
    let scheduled : IsUpTo 40_960_000_000_000 (carried_to a types n).scheduled = record { low = s1; high = omega (arith, ints, s2, count) } in
    record { within = within; actual = actual; scheduled = scheduled; passed = carried_passed 40_960_000_000_000 a types n actual scheduled }

-- of any account interest less fee lies within the limits of its books
pub kept_account : (a : Account) (p : ℕ) → IsAccount a → IsUpTo 1_000_000_000_000_000_000 (kept (books_at_end a p))
kept_account a p h =
    elim (nat_lt p (month_of a.terms.boarded)) as (λ v. nat_lt p (month_of a.terms.boarded) ≡ v → IsUpTo 1_000_000_000_000_000_000 (kept (books_at_end a p))) [
      | true ↦ λ e.
          let first = before_boarded a p (grind (arith, nat_tests)) in
          let none = kept_start a.terms in
          rw first (record { low = omega (arith, ints, none); high = omega (arith, ints, none) })
      | false ↦ λ e.
          let last = from_boarded a p (grind (arith, nat_tests)) in
          let d = end_day a p in
          let parts = (account_parts a d h).fee in
          let books = account_books a d h in
          let fee = books.signs.fee in
          let most = books.within.interest in
          rw last (record { low = omega (arith, ints, parts); high = omega (arith, ints, most, fee) })
    ] refl

-- what is carried of any account lies within what a month's due asks
pub record IsCarryOf (a : Account) (c : Carry) : Type 0 where
  pub within : IsWithin a.terms c
  pub sums : HasSums c

pub account_carry : (a : Account) (types : List TypeChange) (n : ℕ) → n ≤ 2_000 → IsAccount a → IsCarryOf a (carried_to a types n)
unfolding carried_to
account_carry a types n few h =
    let t = a.terms in
    let months = first_months a types n in
    let all = months_within a types n h in
    let count = months_count a types n in
    let within = carried-within t months h.terms all in
    let kept' = carried_kept a types n h in
    let limit = kept_account a (month_of t.boarded + n - 1) h in
    let l1 = limit.low in let l2 = limit.high in
    let s1 = carried-scheduled_low t months h.terms in
    let s2 = carried-scheduled_high t months h.terms all in
    let actual : IsUpTo 1_000_000_000_000_000_000 (carried_to a types n).actual = record { low = omega (arith, ints, kept', l1); high = omega (arith, ints, kept', l2) } in
    let scheduled : IsUpTo 1_000_000_000_000_000_000 (carried_to a types n).scheduled = record { low = s1; high = omega (arith, ints, s2, count) } in
    let passed = carried_passed 1_000_000_000_000_000_000 a types n actual scheduled in
    let a1 = actual.low in let a2 = actual.high in
    let p1 = passed.low in let p2 = passed.high in
    let c1 = scheduled.low in let c2 = scheduled.high in
    record {
      within = within;
      sums = record { actual_low = omega (arith, ints, a1); actual_high = omega (arith, ints, a2); scheduled_low = omega (arith, ints, c1); scheduled_high = omega (arith, ints, c2); passed_low = omega (arith, ints, p1); passed_high = omega (arith, ints, p2) };
    }

-- at the end of a month that the calendar has
pub carry_at_within : (a : Account) (types : List TypeChange) (p : ℕ) → p < 25_692 → IsLimited a → IsCarryWithin a.terms (carried_at a types p)
carry_at_within a types p lt h =
    let first = h.account.boarded.first in
    carry_within a types (p + 1 - month_of a.terms.boarded) (omega arith) h

-- each due is small
pub due_small : (l : Held) (p : ℕ) → p < 25_692 → IsLimited l.account → IsSmallDue (due_of l p)
due_small l p lt h =
    let t = l.account.terms in
    let before = carry_at_within l.account l.types (p - 1) (omega arith) h in
    let later = carry_at_within l.account l.types p lt h in
    let b1 = before.passed.low in let b2 = before.passed.high in
    let b3 = before.within.balance_low in let b4 = before.within.balance_high in
    let l1 = later.passed.low in let l2 = later.passed.high in
    let l3 = later.within.balance_low in let l4 = later.within.balance_high in
    let most = h.account.terms.principal_high in
    record {
      interest = record { low = omega (arith, ints, b1, b2, l1, l2); high = omega (arith, ints, b1, b2, l1, l2) };
      principal = record { low = omega (arith, ints, b3, b4, l3, l4, most); high = omega (arith, ints, b3, b4, l3, l4, most) };
      balance = record { low = omega (arith, ints, l3); high = omega (arith, ints, l4, most) };
    }

-- ---- dues add up to what was carried

-- what was passed of interest, less the investor's balance
abbrev pub passed_sum : Carry → ℤ
passed_sum c = c.passed -ℤ c.balance

pub dues_telescope : (l : Held) (p n : ℕ) → 1 ≤ p → total_by due_sum (map (due_of l) (range_with_len p n)) ≡ passed_sum (carry_of l (p + n - 1)) -ℤ passed_sum (carry_of l (p - 1))
dues_telescope l p zero some =
    let place : p + 0 - 1 ≡ p - 1 = omega arith in
    let same = ap (λ q. passed_sum (carry_of l q)) place in
    omega (arith, ints, same)
dues_telescope l p (suc n) some =
    let rest = dues_telescope l (p + 1) n (omega arith) in
    let last : p + 1 + n - 1 ≡ p + suc n - 1 = omega arith in
    let back : p + 1 - 1 ≡ p = omega arith in
    let e1 = ap (λ q. passed_sum (carry_of l q)) last in
    let e2 = ap (λ q. passed_sum (carry_of l q)) back in
    let whole : total_by due_sum (map (due_of l) (range_with_len p (suc n))) ≡ due_sum (due_of l p) +ℤ total_by due_sum (map (due_of l) (range_with_len (p + 1) n)) = refl in
    let here : due_sum (due_of l p) ≡ passed_sum (carry_of l p) -ℤ passed_sum (carry_of l (p - 1)) = omega (arith, ints) in
    omega (arith, ints, rest, e1, e2, whole, here)
