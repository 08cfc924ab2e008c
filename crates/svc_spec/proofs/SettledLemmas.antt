-- What a whole settling keeps, whatever its limit: the signs of the numbers, all money, that only
-- satisfied loans have a balance of 0, and which installments can be satisfied.
use Rattle.std.proofs.Common.{◌≡◌, ℕ, zero, suc, ◌+◌, ◌-◌, ◌≤◌, true, false, arith, refl, sym, ◌∙◌}
use Rattle.std.specs.Prelude.{pos, ◌≤ℤ◌, ◌&&◌, int_le, max, is_some, is_none, Some, None, if◌then◌else◌}
use Rattle.std.proofs.lemmas.Int.{ints}
use Rattle.svc_base.proofs.CentsRules.{from_int_le, from_not_int_le}
use Rattle.svc_types.specs.declared.terms.Terms.{Terms}
use Rattle.svc_types.specs.declared.books.Books.{Books}
use Rattle.svc_types.specs.Terms.{IsSound}
use Rattle.svc_spec.specs.Settling.{moves, moved_one, moved, late_paid, late_taken, is_overdue, marked, settled_by}
use Rattle.svc_spec.specs.Books.{HaveSigns, total}
use Rattle.svc_spec.proofs.InstallmentLemmas.{IsBalance, principal_part_bounds}
use Rattle.svc_spec.proofs.SettlingLemmas.{moves_most}
use Rattle.svc_spec.proofs.StepLemmas.{CanPay, moved_one_total, moved_keeps, late_taken_signs, late_taken_total, marked_signs, marked_total}

-- what its three parts keep, a settling keeps
pub settled_keeps : (t : Terms) (by d : ℕ) (P : Books → Type 0) → IsSound t → ((b : Books) → HaveSigns t b → CanPay t b → P b → P (moved_one t b)) → ((b : Books) → HaveSigns t b → P b → P (late_taken t d b)) → ((b : Books) → P b → P (marked d b)) → (b : Books) → HaveSigns t b → P b → P (settled_by t by d b)
unfolding settled_by
settled_keeps t by d P s one late mark b h p =
    let last = moved t (moves t by b) b in
    let all = moved_keeps t by P s one (moves t by b) b refl h p in
    mark (late_taken t d last) (late last all.0 all.1)

pub settled_signs : (t : Terms) (by d : ℕ) (b : Books) → IsSound t → HaveSigns t b → HaveSigns t (settled_by t by d b)
unfolding settled_by
settled_signs t by d b s h =
    let last = moved t (moves t by b) b in
    let all = moved_keeps t by (λ x. Unit {0}) s (λ x hx c u. tt) (moves t by b) b refl h tt in
    marked_signs t d (late_taken t d last) (late_taken_signs t d last all.0)

pub settled_total : (t : Terms) (by d : ℕ) (b : Books) → IsSound t → HaveSigns t b → total (settled_by t by d b) ≡ total b
settled_total t by d b s h =
    settled_keeps t by d (λ x. total x ≡ total b) s (λ x hx c e. moved_one_total t x ∙ e) (λ x hx e. late_taken_total t d x ∙ e) (λ x e. marked_total d x ∙ e) b h refl

-- ---- only satisfied loans have a balance of 0

-- no balance rises, and no mark of a satisfied loan changes
pub record Falls (b b' : Books) : Type 0 where
  pub upb : b'.upb ≤ℤ b.upb
  pub satisfied : b'.satisfied ≡ b.satisfied

falls_refl : (b : Books) → Falls b b
falls_refl b = record { upb = omega (arith, ints); satisfied = refl }

moved_one_falls : (t : Terms) (a b : Books) → IsSound t → HaveSigns t b → CanPay t b → Falls a b → Falls a (moved_one t b)
unfolding moved_one
moved_one_falls t a b s h c f =
    let balance : IsBalance t b.upb = record { low = h.upb_low; high = h.upb_high } in
    let principal = principal_part_bounds t b.upb b.next s balance in
    let before = f.upb in
    record { upb = omega (arith, ints); satisfied = f.satisfied }

late_taken_falls : (t : Terms) (d : ℕ) (a b : Books) → Falls a b → Falls a (late_taken t d b)
unfolding late_taken
late_taken_falls t d a b f =
    elim (is_overdue t d b) as (λ v. Falls a (if v then b else late_paid b)) [
      | true ↦ f
      | false ↦ record { upb = f.upb; satisfied = f.satisfied }
    ]

-- a loan that is marked as satisfied has no balance
abbrev pub StaysPaid : Books → Type 0
StaysPaid b = is_some b.satisfied ≡ true → b.upb ≤ℤ pos 0

pub stays_paid : (b : Books) → is_some b.satisfied ≡ int_le b.upb (pos 0) → StaysPaid b
stays_paid b e p = from_int_le b.upb (pos 0) (sym e ∙ p)

pub falls_stays : (a b : Books) → StaysPaid a → Falls a b → StaysPaid b
falls_stays a b stays f p =
    let same : is_some a.satisfied ≡ true = rw (← f.satisfied) p in
    let low = stays same in
    let less = f.upb in
    omega (arith, ints)

-- and where that holds, the mark makes it exact
pub marked_satisfied : (d : ℕ) (b : Books) → StaysPaid b → is_some (marked d b).satisfied ≡ int_le (marked d b).upb (pos 0)
unfolding marked
marked_satisfied d b stays =
    elim (int_le b.upb (pos 0)) as (λ v. int_le b.upb (pos 0) ≡ v → (let x : Books = if v && is_none b.satisfied then record b { satisfied = Some d } else b in is_some x.satisfied ≡ int_le x.upb (pos 0))) [
      | true ↦ λ e. elim b.satisfied as (λ o. b.satisfied ≡ o → (let x : Books = if is_none o then record b { satisfied = Some d } else b in is_some x.satisfied ≡ int_le x.upb (pos 0))) [ None ↦ λ p. sym e | Some day ↦ λ p. rw (p, e) ] refl
      | false ↦ λ e. elim (is_some b.satisfied) as (λ o. is_some b.satisfied ≡ o → is_some b.satisfied ≡ int_le b.upb (pos 0)) [
        | true ↦ λ p. let low = stays p in let high = from_not_int_le b.upb (pos 0) e in absurd (omega (arith, ints))
        | false ↦ λ p. p ∙ sym e
      ] refl
    ] refl

pub settled_satisfied : (t : Terms) (by d : ℕ) (b : Books) → IsSound t → HaveSigns t b → StaysPaid b → is_some (settled_by t by d b).satisfied ≡ int_le (settled_by t by d b).upb (pos 0)
unfolding settled_by
settled_satisfied t by d b s h stays =
    let last = moved t (moves t by b) b in
    let all = moved_keeps t by (Falls b) s (λ x hx c f. moved_one_falls t b x s hx c f) (moves t by b) b refl h (falls_refl b) in
    marked_satisfied d (late_taken t d last) (falls_stays b (late_taken t d last) stays (late_taken_falls t d b last all.1))

-- ---- the number of the open installment rises by the installments that are moved

moved_next : (t : Terms) (n : ℕ) (b : Books) → (moved t n b).next ≡ b.next + n
unfolding moved moved_one
moved_next t zero b = omega arith
moved_next t (suc n) b = omega (arith, moved_next t n (moved_one t b))

late_taken_next : (t : Terms) (d : ℕ) (b : Books) → (late_taken t d b).next ≡ b.next
unfolding late_taken
late_taken_next t d b = elim (is_overdue t d b) as (λ v. (let x : Books = if v then b else late_paid b in x.next ≡ b.next)) [ true ↦ refl | false ↦ refl ]

pub marked_next : (d : ℕ) (b : Books) → (marked d b).next ≡ b.next
unfolding marked
marked_next d b = elim (int_le b.upb (pos 0) && is_none b.satisfied) as (λ v. (let x : Books = if v then record b { satisfied = Some d } else b in x.next ≡ b.next)) [ true ↦ refl | false ↦ refl ]

pub settled_next : (t : Terms) (by d : ℕ) (b : Books) → (settled_by t by d b).next ≡ b.next + moves t by b
unfolding settled_by
settled_next t by d b =
    let last = moved t (moves t by b) b in
    omega (arith, marked_next d (late_taken t d last), late_taken_next t d last, moved_next t (moves t by b) b)

-- the number of the open installment before and after some installments due by a month are satisfied
pub record Advances (t : Terms) (by k k' : ℕ) : Type 0 where
  pub low : k ≤ k'
  pub high : k' ≤ max k (by + 2 - t.first)

pub advances_none : (t : Terms) (by k : ℕ) → Advances t by k k
advances_none t by k = record { low = omega arith; high = omega arith }

pub settled_advances : (t : Terms) (by d : ℕ) (b : Books) → Advances t by b.next (settled_by t by d b).next
settled_advances t by d b =
    let most = moves_most t by b in
    record { low = omega (arith, settled_next t by d b); high = omega (arith, settled_next t by d b) }

moved_one_last : (t : Terms) (b : Books) → HaveSigns t b → CanPay t b → (moved_one t b).next ≤ t.term + 1
unfolding moved_one
moved_one_last t b h c = let last = h.next_high c.owed in omega arith

-- it never passes one more than the term
pub settled_last : (t : Terms) (by d : ℕ) (b : Books) → IsSound t → HaveSigns t b → b.next ≤ t.term + 1 → (settled_by t by d b).next ≤ t.term + 1
settled_last t by d b s h le =
    settled_keeps t by d (λ x. x.next ≤ t.term + 1) s (λ x hx c p. moved_one_last t x hx c) (λ x hx p. omega (arith, late_taken_next t d x)) (λ x p. omega (arith, marked_next d x)) b h le
