-- Loans stay kept as the world has them where their numbers, their boarded months, the months that are closed of
-- them and what was remitted for them stay.
use Rattle.std.proofs.Common.{◌≡◌, ℕ, ◌+◌, ◌-◌, ◌≤◌, true, false, cond, List, [], ◌∷◌, map, length, get_or, arith, refl, sym, ap, subst, ◌∙◌}
use Rattle.std.proofs.Math.ListN.{get_or-map as get_mapped}
use Rattle.std.specs.Prelude.{◌==◌, Option, Some, None, if◌then◌else◌}
use Rattle.std.specs.List.{All, range_with_len}
use Rattle.std.specs.Option.{option_map}
use Rattle.std.proofs.lemmas.List.{length-map}
use Rattle.std.proofs.lemmas.List.Elements.{All-head, All-tail}
use Rattle.svc_base.specs.Sums.{total_by}
use Rattle.period_adjust.specs.Conditions.{last_month}
use Rattle.period_adjust.specs.Kept.{month_after}
use Rattle.svc_world.specs.Held.{Held, find_loan, changed, boarded_month}
use Rattle.svc_world.specs.LoanDues.{due_of}
use Rattle.svc_world.specs.World.{World}
use Rattle.svc_world.specs.Custody.{sent_for, remitted_reports, remitted_for}
use Rattle.svc_world.proofs.LoanListLemmas.{KeepsNumber, numbers_of, changed_numbers}
use Rattle.svc_world.proofs.ChangedWorlds.{closed_months}
use Rattle.svc_loan.specs.Kept.{KeptLoan}
use Rattle.svc_loan.specs.Loans.{find_kept, held_in, closed_in, remitted_in}
use Rattle.svc_custody.specs.Cash.{IsKeptIn}
use Rattle.svc_core.specs.Changing.{dues_since}
use Rattle.svc_rules.proofs.RuleLemmas.{find-held}

-- ---- what is remitted and closed in another world

pub same_remitted_for : (w v : World) (id : ℕ) → v.seals.reports ≡ w.seals.reports → v.remitted ≡ w.remitted → remitted_for v id ≡ remitted_for w id
unfolding remitted_for
same_remitted_for w v id reports remitted = ap (λ o. total_by (sent_for id) (remitted_reports o v.seals.reports)) remitted ∙ ap (λ rs. total_by (sent_for id) (remitted_reports w.remitted rs)) reports

-- ---- lists of loans with the same parts

abbrev pub boarded_in : List Held → List ℕ
boarded_in ls = map boarded_month ls

pub changed_boarded : (id : ℕ) (f : Held → Held) (ls : List Held) → ((l : Held) → boarded_month (f l) ≡ boarded_month l) → boarded_in (changed id f ls) ≡ boarded_in ls
changed_boarded id f [] keeps = refl
changed_boarded id f (l ∷ ls) keeps =
    elim (l.id == id) as (λ v. boarded_in (if v then f l ∷ ls else l ∷ changed id f ls) ≡ boarded_month l ∷ boarded_in ls) [
      | true ↦ ap (λ n. n ∷ boarded_in ls) (keeps l)
      | false ↦ ap (λ ns. boarded_month l ∷ ns) (changed_boarded id f ls keeps)
    ]

-- a part of each loan is what it is in another list
pub same_part : {X Y : Type 0} (g : X → Y) (js ks : List X) (i : ℕ) (d : X) → map g js ≡ map g ks → g (get_or js i d) ≡ g (get_or ks i d)
same_part g js ks i d e = sym (get_mapped g js i d) ∙ ap (λ xs. get_or xs i (g d)) e ∙ get_mapped g ks i d

-- loans whose parts, but for their room, stay
pub record StayKept (ks js : List KeptLoan) : Type 0 where
  pub numbers : numbers_of (held_in js) ≡ numbers_of (held_in ks)
  pub boarded : boarded_in (held_in js) ≡ boarded_in (held_in ks)
  pub closed : closed_in js ≡ closed_in ks
  pub remitted : remitted_in js ≡ remitted_in ks

pub kept_on : (w v : World) (ks js : List KeptLoan) → StayKept ks js → v.seals.reports ≡ w.seals.reports → v.remitted ≡ w.remitted → All (IsKeptIn w) ks → All (IsKeptIn v) js
kept_on w v ks js s reports remitted h i d lt =
    let j = get_or js i d in
    let k = get_or ks i d in
    let id : j.held.id ≡ k.held.id = sym (ap (λ (l : Held). l.id) (get_mapped (λ (x : KeptLoan). x.held) js i d)) ∙ same_part (λ (l : Held). l.id) (held_in js) (held_in ks) i d.held s.numbers ∙ ap (λ (l : Held). l.id) (get_mapped (λ (x : KeptLoan). x.held) ks i d) in
    let from : boarded_month j.held ≡ boarded_month k.held = sym (ap boarded_month (get_mapped (λ (x : KeptLoan). x.held) js i d)) ∙ same_part boarded_month (held_in js) (held_in ks) i d.held s.boarded ∙ ap boarded_month (get_mapped (λ (x : KeptLoan). x.held) ks i d) in
    let closed : j.closed ≡ k.closed = same_part (λ (x : KeptLoan). x.closed) js ks i d s.closed in
    let sent : j.remitted ≡ k.remitted = same_part (λ (x : KeptLoan). x.remitted) js ks i d s.remitted in
    let count : length js ≡ length ks = sym (length-map js (λ (x : KeptLoan). x.closed)) ∙ ap length s.closed ∙ length-map ks (λ (x : KeptLoan). x.closed) in
    let old = h i d (omega (arith, count, lt)) in
    let last : month_after (last_month v.seals.reports) ≡ month_after (last_month w.seals.reports) = ap (λ rs. month_after (last_month rs)) reports in
    record {
      remitted = sent ∙ old.remitted ∙ ap (remitted_for w) (sym id) ∙ sym (same_remitted_for w v j.held.id reports remitted);
      closed = (let was = old.closed in omega (arith, from, closed, last, was));
    }

-- loans of which one was changed
pub changed_stay : (id : ℕ) (f : Held → Held) (ks js : List KeptLoan) → KeepsNumber f → ((l : Held) → boarded_month (f l) ≡ boarded_month l) → held_in js ≡ changed id f (held_in ks) → closed_in js ≡ closed_in ks → remitted_in js ≡ remitted_in ks → StayKept ks js
changed_stay id f ks js keeps from held closed remitted = record {
  numbers = ap numbers_of held ∙ changed_numbers id f (held_in ks) keeps;
  boarded = ap boarded_in held ∙ changed_boarded id f (held_in ks) from;
  closed = closed;
  remitted = remitted;
}

-- ---- the loan with a number

-- what holds of all loans holds of the one that is found
pub kept_all : (P : KeptLoan → Type 0) (id : ℕ) (ks : List KeptLoan) (k : KeptLoan) → find_kept id ks ≡ Some k → All P ks → P k
kept_all P id [] k e h = absurd (cc)
kept_all P id (j ∷ js) k e h =
    elim (j.held.id == id) as (λ v. cond v (Some j) (find_kept id js) ≡ Some k → P k) [
      | true ↦ λ is. let same : j ≡ k = cc in subst P same (All-head P j js h)
      | false ↦ λ is. kept_all P id js k is (All-tail P j js h)
    ] e

pub held_found : (id : ℕ) (ks : List KeptLoan) (k : KeptLoan) → find_kept id ks ≡ Some k → find_loan id (held_in ks) ≡ Some k.held
held_found id ks k e = find-held ks id ∙ ap (option_map (λ (x : KeptLoan). x.held)) e

-- the loan that is kept of one that is held
pub record IsKeptOf (id : ℕ) (ks : List KeptLoan) (l : Held) : Type 0 where
  pub kept : KeptLoan
  pub found : find_kept id ks ≡ Some kept
  pub held : kept.held ≡ l

pub kept_of : (id : ℕ) (ks : List KeptLoan) (l : Held) → find_loan id (held_in ks) ≡ Some l → IsKeptOf id ks l
kept_of id ks l e = at (find_kept id ks) refl (sym (find-held ks id) ∙ e)
  where
    at : (o : Option KeptLoan) → find_kept id ks ≡ o → option_map (λ (x : KeptLoan). x.held) (find_kept id ks) ≡ Some l → IsKeptOf id ks l
    at None is e = absurd (none (find_kept id ks) is e)
      where
        none : (o : Option KeptLoan) → o ≡ None → option_map (λ (x : KeptLoan). x.held) o ≡ Some l → ⊥
        none o is e = (let e' = ap (option_map (λ (x : KeptLoan). x.held)) is in cc)
    at (Some k) is e = record { kept = k; found = is; held = same (find_kept id ks) k is e }
      where
        same : (o : Option KeptLoan) (k : KeptLoan) → o ≡ Some k → option_map (λ (x : KeptLoan). x.held) o ≡ Some l → k.held ≡ l
        same o k is e = (let e' = ap (option_map (λ (x : KeptLoan). x.held)) is in cc)

-- the dues of its closed months from one on
pub dues_to_end : (w : World) (k : KeptLoan) (m : ℕ) → IsKeptIn w k → boarded_month k.held ≤ m → dues_since m k ≡ map (due_of k.held) (range_with_len m (closed_months w.seals.reports m))
dues_to_end w k m h from =
    let closed = h.closed in
    let count : boarded_month k.held + k.closed - m ≡ closed_months w.seals.reports m = omega (arith, closed, from) in
    ap (λ c. map (due_of k.held) (range_with_len m c)) count
