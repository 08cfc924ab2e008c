-- What is carried from a loan's closed months: one month more, fewer months, what a change leaves, and the dues.
use Rattle.std.proofs.Common.{◌≡◌, ℕ, zero, suc, ◌+◌, ◌-◌, ◌≤◌, ◌<◌, List, [], ◌∷◌, ◌++◌, map, take, length, get_or, w64, to_z, of_z, arith, refl, sym, ap, ◌∙◌, append_assoc}
use Rattle.svc_base.proofs.CentsRules.{cents}
use Rattle.std.specs.Prelude.{ℤ, pos, neg_ℤ, ◌≤ℤ◌, ◌+ℤ◌, ◌-ℤ◌, sum_by}
use Rattle.std.specs.List.{range_with_len}
use Rattle.std.proofs.lemmas.Int.{ints}
use Rattle.std.proofs.lemmas.List.Sums.{sum_by-append}
use Rattle.std.proofs.lemmas.List.FromFn.{take-map-range_with_len, length-map-range_with_len, get_or-map-range_with_len, map-range_with_len_more}
use Rattle.svc_base.specs.Calendar.{month_of}
use Rattle.svc_base.specs.Sums.{total_by}
use Rattle.svc_types.specs.declared.requests.TypeChange.{TypeChange}
use Rattle.svc_types.specs.declared.terms.RemitType.{RemitType}
use Rattle.svc_types.specs.declared.terms.Terms.{Terms}
use Rattle.svc_types.specs.declared.books.MonthFacts.{MonthFacts}
use Rattle.svc_spec.specs.Accounts.{Account, IsAccount}
use Rattle.svc_spec.specs.Months.{month_facts}
use Rattle.svc_spec.proofs.MonthLemmas.{boarded_some}
use Rattle.svc_loan.specs.Closed.{carries_to, months_cost, IsSmall, MayClose}
use Rattle.remit_types.specs.declared.dues.MonthDue.{MonthDue}
use Rattle.remit_types.specs.declared.dues.Carry.{Carry}
use Rattle.remit_types.specs.Dues.{loan_month, carried_first, carried_after, due_between}
use Rattle.svc_world.specs.Held.{Held, boarded_month}
use Rattle.svc_world.specs.LoanDues.{kind_in, carried_to, carried_at, due_in, carry_of, due_of}
use Rattle.svc_world.specs.Custody.{due_sum}
use Rattle.svc_world.proofs.AgreeLemmas.{AgreeTo, same_carried}
use Rattle.svc_world.proofs.CarryLemmas.{passed_sum, carried_none, carried_more, account_carry, dues_telescope}
use Rattle.svc_world.proofs.ChangesLemmas.{range_split}

pub carries_length : (a : Account) (types : List TypeChange) (n : ℕ) → length (carries_to a types n) ≡ n
unfolding carries_to
carries_length a types n = length-map-range_with_len (carried_at a types) (month_of a.terms.boarded) n

pub carries_more : (a : Account) (types : List TypeChange) (n : ℕ) → carries_to a types (n + 1) ≡ carries_to a types n ++ carried_at a types (month_of a.terms.boarded + n) ∷ []
unfolding carries_to
carries_more a types n = map-range_with_len_more (carried_at a types) (month_of a.terms.boarded) n (month_of a.terms.boarded + n) refl

pub carries_fewer : (a : Account) (types : List TypeChange) (k n : ℕ) → k ≤ n → take k (carries_to a types n) ≡ carries_to a types k
unfolding carries_to
carries_fewer a types k n le = take-map-range_with_len (carried_at a types) (month_of a.terms.boarded) n k le

pub carry_place : (a : Account) (types : List TypeChange) (n i : ℕ) (d : Carry) → i < n → get_or (carries_to a types n) i d ≡ carried_at a types (month_of a.terms.boarded + i)
unfolding carries_to
carry_place a types n i d lt = get_or-map-range_with_len (carried_at a types) (month_of a.terms.boarded) n i (month_of a.terms.boarded + i) d lt refl

-- ---- what a change leaves

map_same : {A : Type 0} (f g : ℕ → A) (m n : ℕ) → ((p : ℕ) → m ≤ p → p < m + n → f p ≡ g p) → map f (range_with_len m n) ≡ map g (range_with_len m n)
map_same f g m zero h = refl
map_same f g m (suc n) h =
    ap (λ x. x ∷ map f (range_with_len (m + 1) n)) (h m (omega arith) (omega arith))
    ∙ ap (λ xs. g m ∷ xs) (map_same f g (m + 1) n (λ p low high. h p (omega arith) (omega arith)))

-- of two states of a loan that agree on the months before m the first n months are the same
pub carries_agree : (m : ℕ) (l k : Held) (n : ℕ) → AgreeTo m l k → boarded_month l + n ≤ m → carries_to k.account k.types n ≡ carries_to l.account l.types n
unfolding carries_to
carries_agree m l k n h le =
    let start : boarded_month k ≡ boarded_month l = ap (λ t. month_of t.boarded) h.account.terms in
    ap (λ b. map (carry_of k) (range_with_len b n)) start
    ∙ map_same (carry_of k) (carry_of l) (boarded_month l) n (λ p low high. same_carried m l k p h (omega arith) (omega arith))

-- ---- the cost of months

pub cost_more : (cost : Account → ℕ → ℕ) (a : Account) (m n : ℕ) → months_cost cost a m (n + 1) ≡ months_cost cost a m n + cost a (m + n)
unfolding months_cost
cost_more cost a m n =
    ap (sum_by (cost a)) (range_split m n 1) ∙ sum_by-append (cost a) (range_with_len m n) (range_with_len (m + n) 1) ∙ ap (λ x. sum_by (cost a) (range_with_len m n) + x) (one (m + n))
  where
    one : (p : ℕ) → sum_by (cost a) (range_with_len p 1) ≡ cost a p
    one p = omega arith

-- what is carried from the first k of n months, which are some
pub carried_there : (a : Account) (types : List TypeChange) (cs : List Carry) (k : ℕ) (d : Carry) → cs ≡ carries_to a types (length cs) → 1 ≤ k → k ≤ length cs → get_or cs (k - 1) d ≡ carried_to a types k
carried_there a types cs k d kept some le =
    let b = month_of a.terms.boarded in
    let place : b + (k - 1) + 1 - b ≡ k = omega arith in
    ap (λ xs. get_or xs (k - 1) d) kept ∙ carry_place a types (length cs) (k - 1) d (omega arith) ∙ ap (carried_to a types) place

-- ---- one month more

next_carry : (a : Account) (types : List TypeChange) (n : ℕ) → carried_at a types (month_of a.terms.boarded + n) ≡ carried_to a types (suc n)
next_carry a types n =
    let b = month_of a.terms.boarded in
    let place : b + n + 1 - b ≡ suc n = omega arith in
    ap (carried_to a types) place

carry_before : (a : Account) (types : List TypeChange) (n : ℕ) → IsAccount a → carried_at a types (month_of a.terms.boarded + n - 1) ≡ carried_to a types n
carry_before a types n h =
    let b = month_of a.terms.boarded in
    let some = boarded_some a.terms.boarded h.boarded in
    let place : b + n - 1 + 1 - b ≡ n = omega arith in
    ap (carried_to a types) place

-- what closing the next month adds
pub record IsNext (a : Account) (types : List TypeChange) (n : ℕ) (carry : Carry) : Type 0 where
  pub facts : MonthFacts
  pub kind : RemitType
  pub is_facts : facts ≡ month_facts a (month_of a.terms.boarded + n)
  pub is_kind : kind ≡ kind_in a.terms types (month_of a.terms.boarded + n)
  pub is_carry : carry ≡ carried_after a.terms (carried_to a types n) (loan_month kind facts)

next_is : (a : Account) (types : List TypeChange) (n : ℕ) (carry : Carry) → IsNext a types n carry → carry ≡ carried_to a types (suc n)
next_is a types n carry h =
    let m = month_of a.terms.boarded + n in
    h.is_carry
    ∙ ap (λ k. carried_after a.terms (carried_to a types n) (loan_month k h.facts)) h.is_kind
    ∙ ap (λ f. carried_after a.terms (carried_to a types n) (loan_month (kind_in a.terms types m) f)) h.is_facts
    ∙ sym (carried_more a types n)

pub closed_more : (a : Account) (types : List TypeChange) (n : ℕ) (cs cs' : List Carry) (carry : Carry) → cs ≡ carries_to a types n → IsNext a types n carry → cs' ≡ cs ++ carry ∷ [] → cs' ≡ carries_to a types (n + 1)
closed_more a types n cs cs' carry kept next pushed =
    pushed
    ∙ ap (λ xs. xs ++ carry ∷ []) kept
    ∙ ap (λ x. carries_to a types n ++ x ∷ []) (next_is a types n carry next ∙ sym (next_carry a types n))
    ∙ sym (carries_more a types n)

-- how many months can be closed
pub closings_few : (a : Account) (n : ℕ) → MayClose a n → n ≤ 2_000
closings_few a n h =
    let first = h.account.boarded.first in
    let last = h.ended in
    let end = h.calendar in
    omega arith

-- ---- what is read off

-- what is due for the month that is n months after the boarded one
pub due_is : (a : Account) (types : List TypeChange) (n m : ℕ) → IsAccount a → m ≡ month_of a.terms.boarded + n → due_between m (carried_to a types n) (carried_to a types (n + 1)) ≡ due_in a types m
due_is a types n m h is =
    let b = month_of a.terms.boarded in
    let one : suc n ≡ n + 1 = omega arith in
    let before : carried_at a types (m - 1) ≡ carried_to a types n = ap (λ p. carried_at a types (p - 1)) is ∙ carry_before a types n h in
    let later : carried_at a types m ≡ carried_to a types (n + 1) = ap (carried_at a types) is ∙ next_carry a types n ∙ ap (carried_to a types) one in
    ap (λ c. due_between m c (carried_to a types (n + 1))) (sym before) ∙ ap (λ c. due_between m (carried_at a types (m - 1)) c) (sym later)

-- what is carried from closed months is within limits
pub carried_small : (a : Account) (types : List TypeChange) (k n : ℕ) → MayClose a n → k ≤ n → IsSmall (carried_to a types k)
carried_small a types k n may le =
    let few = closings_few a n may in
    let h = account_carry a types k (omega (arith, few)) may.account in
    let most = may.account.terms.principal_high in
    let high = h.within.balance_high in
    record {
      balance_low = h.within.balance_low;
      balance_high = omega (arith, ints, most, high);
      passed_low = h.sums.passed_low;
      passed_high = h.sums.passed_high;
    }

-- the dues of some months and of the one after them
pub dues_more : (a : Account) (types : List TypeChange) (m n p : ℕ) (ds : List MonthDue) → p ≡ m + n → (ds ++ map (due_in a types) (range_with_len m n)) ++ due_in a types p ∷ [] ≡ ds ++ map (due_in a types) (range_with_len m (n + 1))
dues_more a types m n p ds is =
    append_assoc ds (map (due_in a types) (range_with_len m n)) (due_in a types p ∷ [])
    ∙ ap (λ xs. ds ++ xs) (sym (map-range_with_len_more (due_in a types) m n p (sym is)))

pub carry_there : (a : Account) (types : List TypeChange) (cs : List Carry) (n m : ℕ) (d : Carry) → cs ≡ carries_to a types n → month_of a.terms.boarded ≤ m → m < month_of a.terms.boarded + n → get_or cs (m - month_of a.terms.boarded) d ≡ carried_at a types m
carry_there a types cs n m d is from lt =
    let b = month_of a.terms.boarded in
    let at : b + (m - b) ≡ m = omega arith in
    ap (λ xs. get_or xs (m - b) d) is ∙ carry_place a types n (m - b) d (omega arith) ∙ ap (carried_at a types) at

pub carry_early : (a : Account) (types : List TypeChange) (m : ℕ) → m < month_of a.terms.boarded → carried_at a types m ≡ carried_first a.terms
carry_early a types m lt =
    let none : m + 1 - month_of a.terms.boarded ≡ 0 = omega arith in
    ap (carried_to a types) none ∙ carried_none a types

passed_first : (t : Terms) → passed_sum (carried_first t) ≡ pos 0 -ℤ t.principal
passed_first t = refl

-- all dues add up to what was passed of interest and what the investor's balance fell by
pub dues_add_up : (l : Held) (n : ℕ) → IsAccount l.account → total_by due_sum (map (due_of l) (range_with_len (boarded_month l) n)) ≡ (carried_to l.account l.types n).passed -ℤ (carried_to l.account l.types n).balance +ℤ l.account.terms.principal
dues_add_up l n h =
    let b = boarded_month l in
    let some = boarded_some l.account.terms.boarded h.boarded in
    let whole = dues_telescope l b n (omega arith) in
    let last = ap passed_sum (carry_before l.account l.types n h) in
    let first = ap passed_sum (carry_early l.account l.types (b - 1) (omega arith)) in
    let start = passed_first l.account.terms in
    omega (arith, ints)

-- an amount of cents that a signed number of 64 bits holds
pub cents_same : (z : ℤ) → neg_ℤ (pos 2_000_000_000_000_000_000) ≤ℤ z → z ≤ℤ pos 2_000_000_000_000_000_000 → to_z w64 (of_z w64 z) ≡ z
cents_same z low high = grind (arith, cents)
