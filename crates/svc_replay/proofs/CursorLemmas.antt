-- A cursor over days: an entry more is passed, and nothing is left at its end.
use Rattle.std.proofs.Common.{◌≡◌, ℕ, zero, suc, ◌+◌, ◌-◌, ◌≤◌, ◌<◌, true, false, List, [], ◌∷◌, ◌++◌, length, map, take, drop, get_or, arith, refl, sym, subst, ◌∙◌}
use Rattle.std.specs.Prelude.{nat_le}
use Rattle.std.specs.List.{All}
use Rattle.std.proofs.lemmas.List.Elements.{All-cons, All-head, All-tail, All-take}
use Rattle.svc_base.specs.Calendar.{month_of}
use Rattle.svc_types.specs.declared.terms.Terms.{Terms}
use Rattle.svc_types.specs.declared.account.Entry.{Entry}
use Rattle.svc_types.specs.declared.account.Event.{Event}
use Rattle.svc_spec.specs.Events.{late_day, month_marks_from, late_mark, late_marks_from, up_to, event_of}
use Rattle.svc_spec.proofs.SettlingLemmas.{from_nat_le, from_not_nat_le}
use Rattle.svc_spec.proofs.EventLemmas.{up_to_more}
use Rattle.svc_replay.specs.Left.{months_left, lates_left, entries_left, left, IsAfter, IsBy}
use Rattle.svc_replay.proofs.LastLemmas.{by_day_parts, all_front, all_back}

-- ---- one entry more

taken_first : (P : Entry → Type 0) (live : List Entry) (i : ℕ) (e : Entry) → i < length live → e ≡ get_or live i e → P e → All P (take i live) → All P (take (suc i) live)
taken_first P [] i e lt is h all = absurd (omega arith)
taken_first P (x ∷ xs) zero e lt is h all = All-cons P x [] (subst P is h) (λ k d none. absurd (omega arith))
taken_first P (x ∷ xs) (suc i) e lt is h all = All-cons P x (take (suc i) xs) (All-head P x (take i xs) all) (taken_first P xs i e (omega arith) is h (All-tail P x (take i xs) all))

pub taken_more : (P : Entry → Type 0) (live : List Entry) (i : ℕ) (e : Entry) → i < length live → e ≡ get_or live i e → P e → All P (take i live) → All P (take (i + 1) live)
taken_more P live i e lt is h all = let one : i + 1 ≡ suc i = omega arith in rw one (taken_first P live i e lt is h all)

-- ---- a place after all events up to a day

empty : (xs : List Event) → All (λ x. 1 ≤ 0) xs → xs ≡ []
empty [] h = refl
empty (x ∷ xs) h = let no = All-head (λ y. 1 ≤ 0) x xs h in absurd (omega arith)

-- where nothing is left up to a day, all events up to it have been passed
pub nothing_left : (t : Terms) (live : List Entry) (d m k i : ℕ) → left t live d m k i ≡ [] → IsBy t live d m k i → IsAfter t live d m k i
unfolding left
nothing_left t live d m k i none h =
    let P : Event → Type 0 = λ x. 1 ≤ 0 in
    let months = months_left m d in
    let lates = lates_left t k d in
    let entries = entries_left live i d in
    let all : All P (months ++ lates ++ entries) = by_day_parts P (months ++ lates ++ entries) (rw none (λ n x lt. absurd (omega arith))) in
    let front = all_front P (months ++ lates) entries all in
    let no_month = empty months (all_front P months lates front) in
    let no_late = empty lates (all_back P months lates front) in
    let no_entry = empty entries (all_back P (months ++ lates) entries all) in
    let by = h.month in
    record {
      month = months_end m d by no_month;
      few = h.few;
      over = h.over;
      open_grace = λ few. late_after t k d few no_late;
      taken = h.taken;
      later = entries_after (drop i live) d no_entry;
    }
  where
    months_end : (m d : ℕ) → m ≤ month_of d → months_left m d ≡ [] → m ≡ month_of d
    months_end m d by none =
        elim (month_of d - m) as (λ n. month_of d - m ≡ n → month_marks_from (m + 1) n ≡ [] → m ≡ month_of d) [
          | zero ↦ λ e g. omega arith
          | suc n ↦ λ e g. absurd (cc)
        ] refl none

    late_after : (t : Terms) (k d : ℕ) → k < t.term → lates_left t k d ≡ [] → d < late_day t (k + 1)
    late_after t k d few none =
        let more : t.term - k ≡ suc (t.term - (k + 1)) = omega arith in
        let all : up_to d (late_mark t (k + 1) ∷ late_marks_from t (k + 1 + 1) (t.term - (k + 1))) ≡ [] = rw more at none in
        elim (nat_le (late_day t (k + 1)) d) as (λ v. nat_le (late_day t (k + 1)) d ≡ v → d < late_day t (k + 1)) [
          | true ↦ λ e.
              let some = sym (up_to_more d (late_mark t (k + 1)) (late_marks_from t (k + 1 + 1) (t.term - (k + 1))) (from_nat_le (late_day t (k + 1)) d e)) ∙ all in
              absurd (cc)
          | false ↦ λ e. from_not_nat_le (late_day t (k + 1)) d e
        ] refl

    entries_after : (es : List Entry) (d : ℕ) → up_to d (map event_of es) ≡ [] → All (λ e. d < e.day) es
    entries_after [] d none = λ k x lt. absurd (omega arith)
    entries_after (e ∷ es) d none =
        elim (nat_le e.day d) as (λ v. nat_le e.day d ≡ v → up_to d (map event_of (e ∷ es)) ≡ [] → All (λ x. d < x.day) (e ∷ es)) [
          | true ↦ λ h g. let some : event_of e ∷ up_to d (map event_of es) ≡ [] = rw h at g in absurd (cc)
          | false ↦ λ h g. All-cons (λ x. d < x.day) e es (from_not_nat_le e.day d h) (entries_after es d (rw h at g))
        ] refl none

-- ---- a place after all entries

none_left : (P : Entry → Type 0) (xs : List Entry) → All P (drop (length xs) xs)
none_left P [] = λ k d lt. absurd (omega arith)
none_left P (x ∷ xs) = none_left P xs

pub after_entries : (t : Terms) (live : List Entry) (d m k i : ℕ) → m ≡ month_of d → i ≡ length live → All (λ e. e.day ≤ d) live → k ≤ t.term → (1 ≤ k → late_day t k ≤ d) → (k < t.term → d < late_day t (k + 1)) → IsAfter t live d m k i
after_entries t live d m k i month all until few over open_grace = record {
  month = month;
  few = few;
  over = over;
  open_grace = open_grace;
  taken = All-take (λ e. e.day ≤ d) i live until;
  later = rw all (none_left (λ e. d < e.day) live);
}
