-- The definitions of an insurance's end, in the words of the Act.
use Rattle.std.proofs.Common.{◌≡◌, ◌≢◌, ◌⊎◌, inl, inr, ℕ, zero, suc, ◌+◌, ◌-◌, ◌≤◌, ◌<◌, Bool, true, false, cond, arith, refl, sym, ap, ◌∙◌, subst}
use Rattle.std.specs.Prelude.{◌==◌, ◌||◌, is_some, if◌then◌else◌, Some, None, ℤ, pos, ◌*ℤ◌, ◌-ℤ◌, ◌≤ℤ◌}
use Rattle.std.specs.Int.{int_min}
use Rattle.std.specs.List.{find, range_with_len}
use Rattle.std.proofs.lemmas.Bool.{false≢true}
use Rattle.std.proofs.lemmas.Bool.Decides.{nat_tests}
use Rattle.std.proofs.lemmas.Int.{ints}
use Rattle.svc_base.specs.Calendar.{month_of, first_day}
use Rattle.svc_base.specs.Money.{month_interest}
use Rattle.svc_base.proofs.CentsRules.{int_le-true, from_int_le}
use Rattle.svc_types.specs.declared.terms.Terms.{Terms}
use Rattle.svc_types.specs.Terms.{IsSound}
use Rattle.svc_types.specs.LevelPayment.{level_principal}
use Rattle.svc_spec.specs.Accounts.{Account, books_of}
use Rattle.svc_spec.specs.Installments.{principal_part}
use Rattle.svc_spec.specs.Payoff.{is_current}
use Rattle.pmi_track.specs.Schedule.{scheduled, scheduled_on}
use Rattle.pmi_track.specs.Insurance.{is_within, ends_on, automatic_month}
use Rattle.pmi_track.specs.Ends.{MayEnd, IsAutomatic, NeverEnds, FollowsSchedule}
use Rattle.pmi_track.proofs.RowLemmas.{both_true, from_both}
use Rattle.pmi_track.proofs.ScheduleLemmas.{scheduled_start}

-- ---- one day

either_true : (a b : Bool) → (a || b) ≡ true → (a ≡ true) ⊎ (b ≡ true)
either_true true b e = inl refl
either_true false b e = inr e

left_true : (a b : Bool) → a ≡ true → (a || b) ≡ true
left_true a b e = ap (λ x. x || b) e

right_true : (a b : Bool) → b ≡ true → (a || b) ≡ true
right_true true b e = refl
right_true false b e = e

may_end : (a : Account) (value : ℤ) (day : ℕ) → ends_on a value day ≡ true → MayEnd a value day
may_end a value day e =
    let satisfied = is_some (books_of a day).satisfied in
    let within = is_within 78 value (scheduled_on a.terms day) in
    let both = both_true (is_current a.terms day (books_of a day)) (satisfied || within) e in
    record {
      current = both.0;
      low = elim (either_true satisfied within both.1) as (λ d. (satisfied ≡ true) ⊎ ((pos 100 *ℤ scheduled_on a.terms day) ≤ℤ (pos 78 *ℤ value))) [
        | inl s ↦ inl s
        | inr w ↦ inr (from_int_le (pos 100 *ℤ scheduled_on a.terms day) (pos 78 *ℤ value) w)
      ];
    }

ends : (a : Account) (value : ℤ) (day : ℕ) → MayEnd a value day → ends_on a value day ≡ true
ends a value day h =
    let satisfied = is_some (books_of a day).satisfied in
    let within = is_within 78 value (scheduled_on a.terms day) in
    from_both (is_current a.terms day (books_of a day)) (satisfied || within) h.current
    (elim h.low as (λ d. (satisfied || within) ≡ true) [
      | inl s ↦ left_true satisfied within s
      | inr w ↦ right_true satisfied within (int_le-true (pos 100 *ℤ scheduled_on a.terms day) (pos 78 *ℤ value) w)
    ])

-- ---- a search over numbers in a row

pub record IsFirst (p : ℕ → Bool) (low n x : ℕ) : Type 0 where
  pub since : low ≤ x
  pub until : x < low + n
  pub here : p x ≡ true
  pub least : (y : ℕ) → low ≤ y → y < low + n → p y ≡ true → x ≤ y

first_found : (p : ℕ → Bool) (low n x : ℕ) → find p (range_with_len low n) ≡ Some x → IsFirst p low n x
first_found p low zero x e = absurd (cc)
first_found p low (suc n) x e =
    elim (p low) as (λ v. p low ≡ v → cond v (Some low) (find p (range_with_len (low + 1) n)) ≡ Some x → IsFirst p low (suc n) x) [
      | true ↦ λ here is.
          let same : low ≡ x = cc in
          subst (IsFirst p low (suc n)) same (record { since = omega arith; until = omega arith; here = here; least = λ y l h k. l })
      | false ↦ λ other is.
          let r = first_found p (low + 1) n x is in
          let since = r.since in
          let until = r.until in
          record {
            since = omega arith;
            until = omega arith;
            here = r.here;
            least = λ y l h k. after y l h k other r;
          }
    ] refl e
  where
    after : (y : ℕ) → low ≤ y → y < low + suc n → p y ≡ true → p low ≡ false → IsFirst p (low + 1) n x → x ≤ y
    after y l h k other r =
        elim (low == y) as (λ v. (low == y) ≡ v → x ≤ y) [
          | true ↦ λ is. let same : low ≡ y = grind (arith, nat_tests) in absurd (false≢true (sym other ∙ ap p same ∙ k))
          | false ↦ λ is. let lt : low < y = grind (arith, nat_tests) in r.least y (omega arith) (omega arith) k
        ] refl

none_found : (p : ℕ → Bool) (low n : ℕ) → find p (range_with_len low n) ≡ None → (y : ℕ) → low ≤ y → y < low + n → p y ≡ true → ⊥
none_found p low zero e y l h k = omega arith
none_found p low (suc n) e y l h k =
    elim (p low) as (λ v. p low ≡ v → cond v (Some low) (find p (range_with_len (low + 1) n)) ≡ None → ⊥) [
      | true ↦ λ here is. cc
      | false ↦ λ other is.
          elim (low == y) as (λ v. (low == y) ≡ v → ⊥) [
            | true ↦ λ same. let e : low ≡ y = grind (arith, nat_tests) in false≢true (sym other ∙ ap p e ∙ k)
            | false ↦ λ apart. let lt : low < y = grind (arith, nat_tests) in none_found p (low + 1) n is y (omega arith) (omega arith) k
          ] refl
    ] refl e

-- ---- the month

pub automatic_is : (a : Account) (value : ℤ) (month : ℕ) → automatic_month a value ≡ Some month → IsAutomatic a value month
automatic_is a value month e =
    let r = first_found (λ m. ends_on a value (first_day m)) (month_of a.terms.boarded + 1) (month_of a.today - month_of a.terms.boarded) month e in
    let since = r.since in
    let until = r.until in
    record {
      day = record { after = omega arith; until = omega arith };
      ends = may_end a value (first_day month) r.here;
      least = λ m day may. let after = day.after in let last = day.until in r.least m (omega arith) (omega arith) (ends a value (first_day m) may);
    }

pub never_is : (a : Account) (value : ℤ) → automatic_month a value ≡ None → NeverEnds a value
never_is a value e =
    λ m day may. let after = day.after in let last = day.until in
    none_found (λ k. ends_on a value (first_day k)) (month_of a.terms.boarded + 1) (month_of a.today - month_of a.terms.boarded) e m (omega arith) (omega arith) (ends a value (first_day m) may)

-- ---- the schedule

step_is : (t : Terms) (k : ℕ) → suc k ≢ t.term → scheduled t (suc k) ≡ scheduled t k -ℤ int_min (scheduled t k) (t.pi -ℤ month_interest (scheduled t k) t.rate)
unfolding scheduled principal_part level_principal
step_is t k other =
    elim (suc k == t.term) as (λ v. (suc k == t.term) ≡ v → scheduled t k -ℤ (if v then scheduled t k else level_principal t (scheduled t k)) ≡ scheduled t k -ℤ int_min (scheduled t k) (t.pi -ℤ month_interest (scheduled t k) t.rate)) [
      | true ↦ λ e. absurd (other (grind (arith, nat_tests)))
      | false ↦ λ e. refl
    ] refl

end_is : (t : Terms) (k : ℕ) → suc k ≡ t.term → scheduled t (suc k) ≡ pos 0
unfolding scheduled principal_part
end_is t k e =
    let is : (suc k == t.term) ≡ true = grind (arith, nat_tests) in
    ap (λ v. scheduled t k -ℤ (if v then scheduled t k else level_principal t (scheduled t k))) is ∙ nothing (scheduled t k)
  where
    nothing : (z : ℤ) → z -ℤ z ≡ pos 0
    nothing z = omega (arith, ints)

pub schedule_is : (t : Terms) → IsSound t → FollowsSchedule t
schedule_is t s = record { begin = scheduled_start t; step = step_is t; end = last t.term refl s.term_low }
  where
    last : (n : ℕ) → n ≡ t.term → 1 ≤ n → scheduled t t.term ≡ pos 0
    last zero e some = absurd (omega arith)
    last (suc k) e some = subst (λ n. scheduled t n ≡ pos 0) e (end_is t k e)
