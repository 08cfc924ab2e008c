-- Where reports and what was remitted stay, so does what a loan counts for.
use Rattle.std.proofs.Common.{◌≡◌, ℕ, Bool, true, false, cond, List, [], ◌∷◌, ◌++◌, map, arith, refl, ap, ◌∙◌, append-nil}
use Rattle.std.specs.Prelude.{◌==◌, ◌&&◌, nat_lt, ℤ, pos, ◌+ℤ◌, ◌-ℤ◌, Option, Some, None, if◌then◌else◌}
use Rattle.std.specs.Ordering.{int_eq}
use Rattle.std.specs.List.{All, filter_map, cons_option}
use Rattle.std.proofs.lemmas.Bool.Decides.{nat_tests, Decides-int_eq}
use Rattle.std.proofs.lemmas.Int.{ints}
use Rattle.std.proofs.lemmas.List.Elements.{All-head, All-tail}
use Rattle.svc_base.specs.Sums.{total_by}
use Rattle.svc_spec.specs.Totals.{received, returned, refunded, disbursed}
use Rattle.advance_book.specs.Positions.{pi_held, pi_advanced, pi_residual, escrow_advanced}
use Rattle.custodial_book.specs.declared.part.Part.{Part}
use Rattle.custodial_book.specs.declared.row.Totals.{Totals}
use Rattle.custodial_book.specs.Parts.{parts}
use Rattle.custodial_book.specs.Rows.{total_of, row_of, rows_of}
use Rattle.svc_world.specs.Held.{Held, find_loan, with_loan, changed, books_now}
use Rattle.svc_world.specs.LoanDues.{due_of}
use Rattle.svc_world.specs.Reports.{months_of}
use Rattle.svc_world.specs.World.{World}
use Rattle.svc_world.specs.Custody.{sent_for, remitted_reports, remitted_for, collected, due_sum, dues_sum, is_remitted_by, is_settled, held_for, advanced_for, totals_of, no_totals, totals_before, rows_between}
use Rattle.svc_world.proofs.LoanListLemmas.{IsFound, KeepsNumber}
use Rattle.svc_world.proofs.CashLemmas.{rows_nil, rows_cons}

-- the same reports, and the same of them remitted
pub record SameReports (w v : World) : Type 0 where
  pub reports : v.seals.reports ≡ w.seals.reports
  pub remitted : v.remitted ≡ w.remitted

pub remitted_same : (w v : World) (id : ℕ) → SameReports w v → remitted_for v id ≡ remitted_for w id
unfolding remitted_for
remitted_same w v id h =
    ap (λ o. total_by (sent_for id) (remitted_reports o v.seals.reports)) h.remitted
    ∙ ap (λ rs. total_by (sent_for id) (remitted_reports w.remitted rs)) h.reports

dues_same : (w v : World) (l : Held) → SameReports w v → dues_sum v l ≡ dues_sum w l
unfolding dues_sum
dues_same w v l h = ap (λ rs. total_by due_sum (map (due_of l) (months_of rs))) h.reports

pub settled_same : (w v : World) (l : Held) → SameReports w v → is_settled v l ≡ is_settled w l
unfolding is_settled
settled_same w v l h =
    ap (λ o. is_remitted_by (books_now l).satisfied o && int_eq (remitted_for v l.id) (dues_sum v l)) h.remitted
    ∙ ap (λ z. is_remitted_by (books_now l).satisfied w.remitted && int_eq z (dues_sum v l)) (remitted_same w v l.id h)
    ∙ ap (λ z. is_remitted_by (books_now l).satisfied w.remitted && int_eq (remitted_for w l.id) z) (dues_same w v l h)

pub held_same : (w v : World) (l : Held) → SameReports w v → held_for v l ≡ held_for w l
held_same w v l h =
    ap (λ r. pi_held (collected (books_now l)) r (is_settled v l)) (remitted_same w v l.id h)
    ∙ ap (pi_held (collected (books_now l)) (remitted_for w l.id)) (settled_same w v l h)

pub advanced_same : (w v : World) (l : Held) → SameReports w v → advanced_for v l ≡ advanced_for w l
advanced_same w v l h =
    ap (λ r. pi_advanced (collected (books_now l)) r (is_settled v l)) (remitted_same w v l.id h)
    ∙ ap (pi_advanced (collected (books_now l)) (remitted_for w l.id)) (settled_same w v l h)

-- the totals of a loan for which so much was remitted
abbrev totals_by : Held → ℤ → Bool → Totals
totals_by l sent settled = record {
  received = received l.account;
  returned = returned l.account;
  refunded = refunded l.account;
  disbursed = disbursed l.account;
  collected = (books_now l).interest +ℤ (books_now l).principal;
  fee = (books_now l).fee;
  late = (books_now l).late_paid;
  pi_advance = pi_advanced (collected (books_now l)) sent settled;
  escrow_advance = escrow_advanced (books_now l).escrow;
  remitted = sent;
  residual = pi_residual (collected (books_now l)) sent settled;
}

pub totals_same : (w v : World) (l : Held) → SameReports w v → totals_of v l ≡ totals_of w l
unfolding totals_of
totals_same w v l h =
    ap (λ r. totals_by l r (is_settled v l)) (remitted_same w v l.id h)
    ∙ ap (totals_by l (remitted_for w l.id)) (settled_same w v l h)

-- ---- rows of totals that stay

same_row : (n id : ℕ) (t : Totals) (part : Part) → row_of n id t t part ≡ None
unfolding row_of
same_row n id t part =
    let z = total_of t part in
    let zero : z -ℤ z ≡ pos 0 = omega (arith, ints) in
    rw ((Decides-int_eq (z -ℤ z) (pos 0)).1 zero) refl

none_kept : {X Y : Type 0} (h : X → Option Y) (xs : List X) → ((x : X) → h x ≡ None) → filter_map h xs ≡ []
none_kept h [] none = refl
none_kept h (x ∷ xs) none = ap (λ o. cons_option o (filter_map h xs)) (none x) ∙ none_kept h xs none

pub no_rows : (n id : ℕ) (t : Totals) → rows_of n id t t ≡ []
no_rows n id t = none_kept (row_of n id t t) parts (same_row n id t)

-- a loan that is as it was has no rows
kept_rows : (n : ℕ) (w v : World) (l : Held) (ls : List Held) → SameReports w v → IsFound w.loans l → rows_between n w v (l ∷ ls) ≡ rows_between n w v ls
kept_rows n w v l ls h found =
    rows_cons n w v l ls
    ∙ ap (λ o. rows_of n l.id (totals_before w o) (totals_of v l) ++ rows_between n w v ls) found
    ∙ ap (λ t. rows_of n l.id (totals_of w l) t ++ rows_between n w v ls) (totals_same w v l h)
    ∙ ap (λ rs. rs ++ rows_between n w v ls) (no_rows n l.id (totals_of w l))

all_kept : (n : ℕ) (w v : World) (ls : List Held) → SameReports w v → All (IsFound w.loans) ls → rows_between n w v ls ≡ []
all_kept n w v [] h found = rows_nil n w v
all_kept n w v (l ∷ ls) h found = kept_rows n w v l ls h (All-head (IsFound w.loans) l ls found) ∙ all_kept n w v ls h (All-tail (IsFound w.loans) l ls found)

-- ---- one loan changed

pub rows_changed : (n id : ℕ) (w v : World) (f : Held → Held) (ls : List Held) (l : Held) → SameReports w v → KeepsNumber f → All (IsFound w.loans) ls → find_loan id ls ≡ Some l → rows_between n w v (changed id f ls) ≡ rows_of n id (totals_of w l) (totals_of v (f l))
rows_changed n id w v f [] l h keeps found e = absurd (cc)
rows_changed n id w v f (k ∷ ks) l h keeps found e =
    elim (k.id == id) as (λ b. (k.id == id) ≡ b → cond b (Some k) (find_loan id ks) ≡ Some l → rows_between n w v (if b then f k ∷ ks else k ∷ changed id f ks) ≡ rows_of n id (totals_of w l) (totals_of v (f l))) [
      | true ↦ λ same is.
          let kl : k ≡ l = cc in
          let number : (f k).id ≡ k.id = keeps k in
          let its : k.id ≡ id = grind (arith, nat_tests) in
          let rest = all_kept n w v ks h (All-tail (IsFound w.loans) k ks found) in
          rows_cons n w v (f k) ks
          ∙ ap (λ i. rows_of n i (totals_before w (find_loan i w.loans)) (totals_of v (f k)) ++ rows_between n w v ks) number
          ∙ ap (λ o. rows_of n k.id (totals_before w o) (totals_of v (f k)) ++ rows_between n w v ks) (All-head (IsFound w.loans) k ks found)
          ∙ ap (λ rs. rows_of n k.id (totals_of w k) (totals_of v (f k)) ++ rs) rest
          ∙ append-nil (rows_of n k.id (totals_of w k) (totals_of v (f k)))
          ∙ ap (λ i. rows_of n i (totals_of w k) (totals_of v (f k))) its
          ∙ ap (λ (x : Held). rows_of n id (totals_of w x) (totals_of v (f x))) kl
      | false ↦ λ other is.
          kept_rows n w v k (changed id f ks) h (All-head (IsFound w.loans) k ks found)
          ∙ rows_changed n id w v f ks l h keeps (All-tail (IsFound w.loans) k ks found) is
    ] refl e

pub sum_changed : (g : Held → ℤ) (id : ℕ) (f : Held → Held) (ls : List Held) (l : Held) → find_loan id ls ≡ Some l → total_by g (changed id f ls) ≡ total_by g ls +ℤ (g (f l) -ℤ g l)
sum_changed g id f [] l e = absurd (cc)
sum_changed g id f (k ∷ ks) l e =
    elim (k.id == id) as (λ b. cond b (Some k) (find_loan id ks) ≡ Some l → total_by g (if b then f k ∷ ks else k ∷ changed id f ks) ≡ (g k +ℤ total_by g ks) +ℤ (g (f l) -ℤ g l)) [
      | true ↦ λ is.
          let kl : k ≡ l = cc in
          let old = ap g kl in
          let new = ap (λ x. g (f x)) kl in
          omega (arith, ints, old, new)
      | false ↦ λ is. omega (arith, ints, sum_changed g id f ks l is)
    ] e

-- ---- one loan more

new_rows : (n : ℕ) (w v : World) (l : Held) (ls : List Held) → SameReports w v → All (IsFound w.loans) ls → find_loan l.id w.loans ≡ None → rows_between n w v (l ∷ ls) ≡ rows_of n l.id no_totals (totals_of v l)
new_rows n w v l ls h found none =
    rows_cons n w v l ls
    ∙ ap (λ o. rows_of n l.id (totals_before w o) (totals_of v l) ++ rows_between n w v ls) none
    ∙ ap (λ rs. rows_of n l.id no_totals (totals_of v l) ++ rs) (all_kept n w v ls h found)
    ∙ append-nil (rows_of n l.id no_totals (totals_of v l))

pub rows_boarded : (n : ℕ) (w v : World) (l : Held) (ls : List Held) → SameReports w v → All (IsFound w.loans) ls → find_loan l.id w.loans ≡ None → rows_between n w v (with_loan l ls) ≡ rows_of n l.id no_totals (totals_of v l)
rows_boarded n w v l [] h found none = new_rows n w v l [] h found none
rows_boarded n w v l (k ∷ ks) h found none =
    elim (nat_lt l.id k.id) as (λ b. rows_between n w v (if b then l ∷ k ∷ ks else k ∷ with_loan l ks) ≡ rows_of n l.id no_totals (totals_of v l)) [
      | true ↦ new_rows n w v l (k ∷ ks) h found none
      | false ↦
          kept_rows n w v k (with_loan l ks) h (All-head (IsFound w.loans) k ks found)
          ∙ rows_boarded n w v l ks h (All-tail (IsFound w.loans) k ks found) none
    ]
