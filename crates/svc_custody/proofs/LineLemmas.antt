-- The numbers of the custodial line.
use Rattle.std.proofs.Common.{◌≡◌, ℕ, zero, suc, ◌*◌, ◌≤◌, ◌<◌, List, [], ◌∷◌, map, length, get_or, ℤ, pos, neg_ℤ, ◌+ℤ◌, ◌-ℤ◌, ◌≤ℤ◌, w64, to_z, of_z, arith, refl, sym, subst, ◌∙◌}
use Rattle.std.specs.Prelude.{Some}
use Rattle.std.specs.List.{All}
use Rattle.std.proofs.lemmas.Int.{ints}
use Rattle.std.proofs.lemmas.List.{length-map}
use Rattle.std.proofs.lemmas.List.Elements.{All-head, All-tail, All-map}
use Rattle.std.proofs.Math.ListN.{set}
use Rattle.svc_base.specs.Sums.{total_by}
use Rattle.svc_base.proofs.SumLemmas.{total_by-same, total_by-map}
use Rattle.svc_base.proofs.CentsRules.{cents}
use Rattle.advance_book.specs.Positions.{escrow_advanced}
use Rattle.svc_world.specs.declared.custody.Custody.{Custody}
use Rattle.svc_world.specs.Held.{Held, find_loan, with_loan, changed, books_now}
use Rattle.svc_world.specs.World.{World}
use Rattle.svc_world.specs.Custody.{totals_of, held_for, advanced_for, borrower_cash, custody_of}
use Rattle.svc_world.proofs.CashLemmas.{sum_with_loan}
use Rattle.svc_loan.proofs.ClosedLemmas.{cents_same}
use Rattle.svc_custody.specs.declared.position.Position.{Position}
use Rattle.svc_custody.specs.Positions.{IsHolding, IsPosition, IsShare, IsLineSum, IsLine, position_of, positions_of, no_position, share_of, line_in, line_after}
use Rattle.svc_custody.proofs.SameLemmas.{SameReports, held_same, advanced_same, sum_changed}

abbrev lined : ℤ → ℤ → ℤ → ℤ → ℤ → ℤ → ℤ → Custody
lined t p s e a h i = record { t = t; p = p; suspense = s; escrow = e; escrow_advance = a; held = h; pi_advance = i }

pub same_line : {t t' p p' s s' e e' a a' h h' i i' : ℤ} → t ≡ t' → p ≡ p' → s ≡ s' → e ≡ e' → a ≡ a' → h ≡ h' → i ≡ i' → lined t p s e a h i ≡ lined t' p' s' e' a' h' i'
same_line q r u v w x y = rw (q, r, u, v, w, x, y) refl

-- ---- as they are passed on

sum_same : (z : ℤ) → neg_ℤ (pos 5_000_000_000_000_000_000) ≤ℤ z → z ≤ℤ pos 5_000_000_000_000_000_000 → to_z w64 (of_z w64 z) ≡ z
sum_same z low high = grind (arith, cents)

pub share_passed : (z : ℤ) → IsHolding z → IsShare (to_z w64 (of_z w64 z))
share_passed z h =
    let l = h.low in let m = h.high in
    let same = cents_same z (omega (arith, ints, l)) (omega (arith, ints, m)) in
    record { low = omega (arith, ints, same, l); high = omega (arith, ints, same, m) }

pub cash_passed : (x s e a : ℤ) → x ≡ to_z w64 (of_z w64 s) +ℤ to_z w64 (of_z w64 e) +ℤ to_z w64 (of_z w64 a) → IsHolding s → IsHolding e → IsHolding a → IsShare (to_z w64 (of_z w64 x))
cash_passed x s e a is hs he ha =
    let s1 = hs.low in let s2 = hs.high in
    let e1 = he.low in let e2 = he.high in
    let a1 = ha.low in let a2 = ha.high in
    let ss = cents_same s (omega (arith, ints, s1)) (omega (arith, ints, s2)) in
    let es = cents_same e (omega (arith, ints, e1)) (omega (arith, ints, e2)) in
    let as' = cents_same a (omega (arith, ints, a1)) (omega (arith, ints, a2)) in
    let low : neg_ℤ (pos 300_000_000_000_000) ≤ℤ x = omega (arith, ints, is, ss, es, as', s1, e1, a1) in
    let high : x ≤ℤ pos 300_000_000_000_000 = omega (arith, ints, is, ss, es, as', s2, e2, a2) in
    let same = cents_same x (omega (arith, ints, low)) (omega (arith, ints, high)) in
    record { low = omega (arith, ints, same, low); high = omega (arith, ints, same, high) }

pub sum_passed : (x s b a b' a' : ℤ) → x ≡ to_z w64 (of_z w64 s) +ℤ (to_z w64 (of_z w64 a) -ℤ to_z w64 (of_z w64 b)) → IsLineSum s → IsShare b → IsShare a → b ≡ b' → a ≡ a' → to_z w64 (of_z w64 x) ≡ s +ℤ (a' -ℤ b')
sum_passed x s b a b' a' is hs hb ha be ae =
    let s1 = hs.low in let s2 = hs.high in
    let b1 = hb.low in let b2 = hb.high in
    let a1 = ha.low in let a2 = ha.high in
    let ss = sum_same s (omega (arith, ints, s1)) (omega (arith, ints, s2)) in
    let bs = cents_same b (omega (arith, ints, b1)) (omega (arith, ints, b2)) in
    let as' = cents_same a (omega (arith, ints, a1)) (omega (arith, ints, a2)) in
    let low : neg_ℤ (pos 4_200_000_000_000_000_000) ≤ℤ x = omega (arith, ints, is, ss, bs, as', s1, b2, a1) in
    let high : x ≤ℤ pos 4_200_000_000_000_000_000 = omega (arith, ints, is, ss, bs, as', s2, b1, a2) in
    let same = sum_same x (omega (arith, ints, low)) (omega (arith, ints, high)) in
    omega (arith, ints, same, is, ss, bs, as', be, ae)

-- ---- the line of some loans

abbrev pub line_over : World → List Held → Custody
line_over w ls = lined (total_by borrower_cash ls) (total_by (held_for w) ls) (total_by (λ (l : Held). (books_now l).suspense) ls) (total_by (λ (l : Held). (books_now l).escrow) ls) (total_by (λ (l : Held). escrow_advanced (books_now l).escrow) ls) (total_by (held_for w) ls) (total_by (advanced_for w) ls)

pub custody_is : (w : World) → custody_of w ≡ line_over w w.loans
unfolding custody_of
custody_is w = refl

record AreWithin (n : ℕ) (z : ℤ) : Type 0 where
  low : neg_ℤ (pos (300_000_000_000_000 * n)) ≤ℤ z
  high : z ≤ℤ pos (300_000_000_000_000 * n)

shares_within : (f : Position → ℤ) (xs : List Position) → All (λ (x : Position). IsShare (f x)) xs → AreWithin (length xs) (total_by f xs)
shares_within f [] h = record { low = omega (arith, ints); high = omega (arith, ints) }
shares_within f (x ∷ xs) h =
    let here = All-head (λ (y : Position). IsShare (f y)) x xs h in
    let rest = shares_within f xs (All-tail (λ (y : Position). IsShare (f y)) x xs h) in
    let l1 = here.low in let h1 = here.high in
    let l2 = rest.low in let h2 = rest.high in
    record { low = omega (arith, ints, l1, l2); high = omega (arith, ints, h1, h2) }

shares_sum : (f : Position → ℤ) (xs : List Position) → length xs ≤ 12_000 → All (λ (x : Position). IsShare (f x)) xs → IsLineSum (total_by f xs)
shares_sum f xs few h =
    let sum = shares_within f xs h in
    let l = sum.low in let m = sum.high in
    record { low = omega (arith, ints, l, few); high = omega (arith, ints, m, few) }

as_share : (z : ℤ) → IsHolding z → IsShare z
as_share z h = let l = h.low in let m = h.high in record { low = omega (arith, ints, l); high = omega (arith, ints, m) }

three_shares : (x y z : ℤ) → IsHolding x → IsHolding y → IsHolding z → IsShare (x +ℤ y +ℤ z)
three_shares x y z a b c =
    let l1 = a.low in let h1 = a.high in
    let l2 = b.low in let h2 = b.high in
    let l3 = c.low in let h3 = c.high in
    record { low = omega (arith, ints, l1, l2, l3); high = omega (arith, ints, h1, h2, h3) }

-- and of their positions
pub positions_line : (xs : List Position) → length xs ≤ 12_000 → All IsPosition xs → IsLine (line_in xs)
positions_line xs few h = record {
  t = shares_sum (λ (x : Position). (share_of x).t) xs few (λ k d lt. three_shares _ _ _ (h k d lt).suspense (h k d lt).escrow (h k d lt).escrow_advance);
  p = shares_sum (λ (x : Position). (share_of x).p) xs few (λ k d lt. as_share _ (h k d lt).held);
  suspense = shares_sum (λ (x : Position). (share_of x).suspense) xs few (λ k d lt. as_share _ (h k d lt).suspense);
  escrow = shares_sum (λ (x : Position). (share_of x).escrow) xs few (λ k d lt. as_share _ (h k d lt).escrow);
  escrow_advance = shares_sum (λ (x : Position). (share_of x).escrow_advance) xs few (λ k d lt. as_share _ (h k d lt).escrow_advance);
  held = shares_sum (λ (x : Position). (share_of x).held) xs few (λ k d lt. as_share _ (h k d lt).held);
  pi_advance = shares_sum (λ (x : Position). (share_of x).pi_advance) xs few (λ k d lt. as_share _ (h k d lt).pi_advance);
}

pub line_of_held : (w : World) (ls : List Held) → line_in (map (position_of w) ls) ≡ line_over w ls
unfolding totals_of
line_of_held w ls = same_line
    (total_by-map (λ (x : Position). (share_of x).t) (position_of w) ls)
    (total_by-map (λ (x : Position). (share_of x).p) (position_of w) ls)
    (total_by-map (λ (x : Position). (share_of x).suspense) (position_of w) ls)
    (total_by-map (λ (x : Position). (share_of x).escrow) (position_of w) ls)
    (total_by-map (λ (x : Position). (share_of x).escrow_advance) (position_of w) ls)
    (total_by-map (λ (x : Position). (share_of x).held) (position_of w) ls)
    (total_by-map (λ (x : Position). (share_of x).pi_advance) (position_of w) ls)

pub line_of_world : (w : World) → line_in (positions_of w) ≡ custody_of w
line_of_world w = line_of_held w w.loans ∙ sym (custody_is w)

pub line_within : (w : World) (ls : List Held) → length ls ≤ 12_000 → All (λ (l : Held). IsPosition (position_of w l)) ls → IsLine (line_over w ls)
line_within w ls few h =
    let count = length-map ls (position_of w) in
    subst IsLine (line_of_held w ls) (positions_line (map (position_of w) ls) (omega (arith, few, count)) (All-map IsPosition (position_of w) ls h))

-- ---- the line after one position changed

total_set : (f : Position → ℤ) (xs : List Position) (i : ℕ) (d y : Position) → i < length xs → total_by f (set xs i y) ≡ total_by f xs +ℤ (f y -ℤ f (get_or xs i d))
total_set f [] i d y lt = absurd (omega arith)
total_set f (x ∷ xs) zero d y lt = omega (arith, ints)
total_set f (x ∷ xs) (suc i) d y lt = let rest = total_set f xs i d y (omega arith) in omega (arith, ints, rest)

pub line_set : (xs : List Position) (i : ℕ) (d y : Position) → i < length xs → line_in (set xs i y) ≡ line_after (line_in xs) (get_or xs i d) y
line_set xs i d y lt = same_line
    (total_set (λ (x : Position). (share_of x).t) xs i d y lt)
    (total_set (λ (x : Position). (share_of x).p) xs i d y lt)
    (total_set (λ (x : Position). (share_of x).suspense) xs i d y lt)
    (total_set (λ (x : Position). (share_of x).escrow) xs i d y lt)
    (total_set (λ (x : Position). (share_of x).escrow_advance) xs i d y lt)
    (total_set (λ (x : Position). (share_of x).held) xs i d y lt)
    (total_set (λ (x : Position). (share_of x).pi_advance) xs i d y lt)

stays : (z a : ℤ) → z +ℤ (a -ℤ a) ≡ z
stays z a = omega (arith, ints)

-- nothing changes where the position is the same
pub line_stays : (c : Custody) (x : Position) → line_after c x x ≡ c
line_stays c x = same_line
    (stays c.t (share_of x).t)
    (stays c.p (share_of x).p)
    (stays c.suspense (share_of x).suspense)
    (stays c.escrow (share_of x).escrow)
    (stays c.escrow_advance (share_of x).escrow_advance)
    (stays c.held (share_of x).held)
    (stays c.pi_advance (share_of x).pi_advance)

-- ---- the line after one loan changed

moved_sum : (g k : Held → ℤ) (id : ℕ) (f : Held → Held) (ls : List Held) (l : Held) → ((x : Held) → k x ≡ g x) → find_loan id ls ≡ Some l → total_by k (changed id f ls) ≡ total_by g ls +ℤ (k (f l) -ℤ g l)
moved_sum g k id f ls l same e =
    let moved = sum_changed k id f ls l e in
    let all = total_by-same k g ls (λ i d lt. same (get_or ls i d)) in
    let one = same l in
    omega (arith, ints, moved, all, one)

pub line_changed : (id : ℕ) (w v : World) (f : Held → Held) (ls : List Held) (l : Held) → SameReports w v → find_loan id ls ≡ Some l → line_over v (changed id f ls) ≡ line_after (line_over w ls) (position_of w l) (position_of v (f l))
unfolding totals_of
line_changed id w v f ls l same e = same_line
    (moved_sum borrower_cash borrower_cash id f ls l (λ x. refl) e)
    (moved_sum (held_for w) (held_for v) id f ls l (λ x. held_same w v x same) e)
    (moved_sum (λ (x : Held). (books_now x).suspense) (λ (x : Held). (books_now x).suspense) id f ls l (λ x. refl) e)
    (moved_sum (λ (x : Held). (books_now x).escrow) (λ (x : Held). (books_now x).escrow) id f ls l (λ x. refl) e)
    (moved_sum (λ (x : Held). escrow_advanced (books_now x).escrow) (λ (x : Held). escrow_advanced (books_now x).escrow) id f ls l (λ x. refl) e)
    (moved_sum (held_for w) (held_for v) id f ls l (λ x. held_same w v x same) e)
    (moved_sum (advanced_for w) (advanced_for v) id f ls l (λ x. advanced_same w v x same) e)

new_sum : (g k : Held → ℤ) (l : Held) (ls : List Held) → ((x : Held) → k x ≡ g x) → total_by k (with_loan l ls) ≡ total_by g ls +ℤ (k l -ℤ pos 0)
new_sum g k l ls same =
    let more = sum_with_loan k l ls in
    let all = total_by-same k g ls (λ i d lt. same (get_or ls i d)) in
    omega (arith, ints, more, all)

pub line_boarded : (w v : World) (l : Held) (ls : List Held) → SameReports w v → line_over v (with_loan l ls) ≡ line_after (line_over w ls) no_position (position_of v l)
unfolding totals_of
line_boarded w v l ls same = same_line
    (new_sum borrower_cash borrower_cash l ls (λ x. refl))
    (new_sum (held_for w) (held_for v) l ls (λ x. held_same w v x same))
    (new_sum (λ (x : Held). (books_now x).suspense) (λ (x : Held). (books_now x).suspense) l ls (λ x. refl))
    (new_sum (λ (x : Held). (books_now x).escrow) (λ (x : Held). (books_now x).escrow) l ls (λ x. refl))
    (new_sum (λ (x : Held). escrow_advanced (books_now x).escrow) (λ (x : Held). escrow_advanced (books_now x).escrow) l ls (λ x. refl))
    (new_sum (held_for w) (held_for v) l ls (λ x. held_same w v x same))
    (new_sum (advanced_for w) (advanced_for v) l ls (λ x. advanced_same w v x same))
