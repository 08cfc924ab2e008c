-- Where the report of a month stands, and what its lines send.
use Rattle.std.proofs.Common.{◌≡◌, ℕ, zero, suc, ◌+◌, ◌-◌, ◌*◌, ◌≤◌, ◌<◌, true, false, cond, List, [], ◌∷◌, length, take, get_or, ℤ, pos, neg_ℤ, ◌+ℤ◌, ◌≤ℤ◌, w64, to_z, of_z, arith, sym, ap, subst, ◌∙◌}
use Rattle.std.specs.Prelude.{◌==◌, Some}
use Rattle.std.proofs.lemmas.Int.{ints}
use Rattle.std.proofs.lemmas.Bool.Decides.{nat_tests}
use Rattle.std.proofs.lemmas.List.{take_more}
use Rattle.svc_base.specs.Sums.{total_by}
use Rattle.svc_base.proofs.SumLemmas.{total_by-push, total_by-both, total_by-same}
use Rattle.period_adjust.specs.declared.report_line.ReportLine.{ReportLine}
use Rattle.period_adjust.specs.Sealed.{Sealed}
use Rattle.period_adjust.specs.Conditions.{IsClosed}
use Rattle.period_adjust.specs.Kept.{AreConsecutive}
use Rattle.svc_world.specs.Custody.{sent_of_line}
use Rattle.svc_world.specs.Judging.{report_for}
use Rattle.svc_loan.proofs.ClosedLemmas.{cents_same}
use Rattle.svc_core.specs.Reported.{IsSmallPart, interest_of, principal_of}

-- ---- the report of a month

month_at : (r : Sealed) (rs : List Sealed) (k : ℕ) (d : Sealed) → AreConsecutive (r ∷ rs) → k < suc (length rs) → (get_or (r ∷ rs) k d).month ≡ r.month + k
month_at r rs zero d c lt = omega arith
month_at r [] (suc k) d c lt = absurd (omega arith)
month_at r (s ∷ ss) (suc k) d c lt =
    let next : s.month ≡ r.month + 1 = c.0 in
    let rest = month_at s ss k d c.1 (omega arith) in
    omega (arith, next, rest)

found_at : (r : Sealed) (rs : List Sealed) (k : ℕ) (d : Sealed) → AreConsecutive (r ∷ rs) → k < suc (length rs) → report_for (r.month + k) (r ∷ rs) ≡ Some (get_or (r ∷ rs) k d)
found_at r rs zero d c lt =
    let here : (r.month == (r.month + 0)) ≡ true = grind (arith, nat_tests) in
    ap (λ v. cond v (Some r) (report_for (r.month + 0) rs)) here
found_at r [] (suc k) d c lt = absurd (omega arith)
found_at r (s ∷ ss) (suc k) d c lt =
    let apart : (r.month == (r.month + suc k)) ≡ false = grind (arith, nat_tests) in
    let next : s.month ≡ r.month + 1 = c.0 in
    let later : r.month + suc k ≡ s.month + k = omega (arith, next) in
    ap (λ v. cond v (Some r) (report_for (r.month + suc k) (s ∷ ss))) apart
    ∙ ap (λ m. report_for m (s ∷ ss)) later
    ∙ found_at s ss k d c.1 (omega arith)

-- the report of a closed month stands as far after the first one as the month does
pub record IsPlace (rs : List Sealed) (month first : ℕ) : Type 0 where
  pub from : first ≤ month
  pub bound : month - first < length rs
  pub found : (d : Sealed) → report_for month rs ≡ Some (get_or rs (month - first) d)

pub place_of : (rs : List Sealed) (month : ℕ) (first : Sealed) → AreConsecutive rs → IsClosed rs month → first ≡ get_or rs 0 first → IsPlace rs month first.month
place_of [] month first c (k, x, lt, is, own) at = absurd (omega arith)
place_of (r ∷ rs) month first c (k, x, lt, is, own) at =
    let begins : first.month ≡ r.month = ap (λ (s : Sealed). s.month) at in
    let there = month_at r rs k x c lt in
    let here : (get_or (r ∷ rs) k x).month ≡ x.month = ap (λ (s : Sealed). s.month) is in
    let same : month - first.month ≡ k = omega (arith, begins, there, here, own) in
    let whole : month ≡ r.month + k = omega (arith, there, here, own) in
    record {
      from = omega (arith, begins, whole);
      bound = omega (arith, same, lt);
      found = λ d. ap (λ m. report_for m (r ∷ rs)) whole ∙ found_at r rs k d c lt ∙ ap (λ i. Some (get_or (r ∷ rs) i d)) (sym same);
    }

pub place_among : (rs xs : List Sealed) (month f : ℕ) (first : Sealed) → xs ≡ rs → AreConsecutive rs → IsClosed rs month → f ≡ first.month → first ≡ get_or xs 0 first → IsPlace xs month f
place_among rs xs month f first same c closed is at =
    subst (λ n. IsPlace xs month n) (sym is)
    (place_of xs month first (subst AreConsecutive (sym same) c) (subst (λ ys. IsClosed ys month) (sym same) closed) at)

-- ---- sums over the lines

-- the sum over the first i lines, of which each lies from -5 * 10^13 to 5 * 10^13
pub record IsSumTo (f : ReportLine → ℤ) (ls : List ReportLine) (i : ℕ) (z : ℤ) : Type 0 where
  pub is : z ≡ total_by f (take i ls)
  pub low : neg_ℤ (pos (50_000_000_000_000 * i)) ≤ℤ z
  pub high : z ≤ℤ pos (50_000_000_000_000 * i)

total_more : (f : ReportLine → ℤ) (ls : List ReportLine) (i : ℕ) (d : ReportLine) → i < length ls → total_by f (take (i + 1) ls) ≡ total_by f (take i ls) +ℤ f (get_or ls i d)
total_more f ls i d lt = ap (total_by f) (take_more ls i d lt) ∙ total_by-push f (take i ls) (get_or ls i d)

-- a line more, with the numbers of 64 bits that code adds
pub sum_step : (f : ReportLine → ℤ) (ls : List ReportLine) (i : ℕ) (d : ReportLine) (z part : ℤ) → length ls ≤ 12_000 → i < length ls → IsSumTo f ls i z → part ≡ f (get_or ls i d) → IsSmallPart part → IsSumTo f ls (i + 1) (to_z w64 (of_z w64 (z +ℤ to_z w64 (of_z w64 part))))
sum_step f ls i d z part few lt sum is small =
    let p0 = small.low in
    let p1 = small.high in
    let s0 = sum.low in
    let s1 = sum.high in
    let one = cents_same part (omega (arith, ints, p0)) (omega (arith, ints, p1)) in
    let whole : to_z w64 (of_z w64 (z +ℤ to_z w64 (of_z w64 part))) ≡ z +ℤ part = ap (λ x. to_z w64 (of_z w64 (z +ℤ x))) one ∙ cents_same (z +ℤ part) (omega (arith, ints, p0, s0, few, lt)) (omega (arith, ints, p1, s1, few, lt)) in
    let before = sum.is in
    let more = total_more f ls i d lt in
    record {
      is = whole ∙ ap (λ x. x +ℤ part) before ∙ ap (λ x. total_by f (take i ls) +ℤ x) is ∙ sym more;
      low = omega (arith, ints, whole, p0, s0);
      high = omega (arith, ints, whole, p1, s1);
    }

-- what lines send is the sum of their parts
pub sent_sum : (ls : List ReportLine) → total_by sent_of_line ls ≡ total_by interest_of ls +ℤ total_by principal_of ls
sent_sum ls = total_by-same sent_of_line (λ (l : ReportLine). interest_of l +ℤ principal_of l) ls (λ k d lt. parts (get_or ls k d)) ∙ total_by-both interest_of principal_of ls
  where
    parts : (l : ReportLine) → sent_of_line l ≡ interest_of l +ℤ principal_of l
    parts l = omega (arith, ints)

pub net_is : (ls : List ReportLine) (i p : ℤ) → i ≡ total_by interest_of ls → p ≡ total_by principal_of ls → neg_ℤ (pos 1_000_000_000_000_000_000) ≤ℤ i → i ≤ℤ pos 1_000_000_000_000_000_000 → neg_ℤ (pos 1_000_000_000_000_000_000) ≤ℤ p → p ≤ℤ pos 1_000_000_000_000_000_000 → to_z w64 (of_z w64 (to_z w64 (of_z w64 i) +ℤ to_z w64 (of_z w64 p))) ≡ total_by sent_of_line ls
net_is ls i p is ps i0 i1 p0 p1 =
    let one = cents_same i (omega (arith, ints)) (omega (arith, ints)) in
    let two = cents_same p (omega (arith, ints)) (omega (arith, ints)) in
    ap (λ x. to_z w64 (of_z w64 (x +ℤ to_z w64 (of_z w64 p)))) one
    ∙ ap (λ x. to_z w64 (of_z w64 (i +ℤ x))) two
    ∙ cents_same (i +ℤ p) (omega (arith, ints)) (omega (arith, ints))
    ∙ ap (λ x. x +ℤ p) is ∙ ap (λ x. total_by interest_of ls +ℤ x) ps ∙ sym (sent_sum ls)
