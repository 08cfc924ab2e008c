-- A business day within the month leaves what custody holds for each loan: it adds no row, and the custodial line stays.
use Rattle.std.proofs.Common.{◌≡◌, ℕ, ◌+◌, ◌≤◌, Bool, List, [], ◌∷◌, ◌++◌, map, get_or, refl, sym, ap, subst, ◌∙◌}
use Rattle.std.specs.Prelude.{ℤ, ◌+ℤ◌, ◌&&◌, None}
use Rattle.std.specs.Ordering.{int_eq}
use Rattle.std.specs.List.{All}
use Rattle.std.proofs.lemmas.List.Elements.{All-head, All-tail}
use Rattle.svc_base.specs.Calendar.{month_of}
use Rattle.svc_base.specs.Sums.{total_by}
use Rattle.svc_types.specs.declared.books.Books.{Books}
use Rattle.svc_types.specs.declared.requests.Command.{Command}
use Rattle.svc_types.specs.declared.requests.Command.TheVariants as command
use Rattle.svc_spec.specs.Totals.{received, returned, refunded, disbursed}
use Rattle.advance_book.specs.Positions.{pi_held, pi_advanced, pi_residual, escrow_advanced}
use Rattle.svc_world.specs.Held.{Held, books_now, on_day}
use Rattle.svc_world.specs.LoanDues.{due_of}
use Rattle.svc_world.specs.Reports.{months_of}
use Rattle.svc_world.specs.World.{World, loans_after, seals_after, after}
use Rattle.svc_world.specs.Worlds.{IsHeld, IsWorld}
use Rattle.svc_world.specs.Refusals.{refusal_of}
use Rattle.svc_world.specs.Custody.{collected, due_sum, dues_sum, is_remitted_by, is_settled, remitted_for, totals_of, rows_made, custody_of}
use Rattle.svc_world.proofs.AgreeLemmas.{same_due}
use Rattle.svc_world.proofs.DayWorlds.{closed_early, day_agrees_to, boarded_by, day_later}
use Rattle.svc_world.proofs.LoanListLemmas.{all_found, mapped_numbers, numbers_of}
use Rattle.svc_custody.specs.declared.position.Position.{Position}
use Rattle.svc_custody.specs.Appending.{rows_along}
use Rattle.svc_custody.specs.Positions.{position_of, positions_of, totals_in, line_in}
use Rattle.svc_world.specs.Scope.{IsWithinMonth}
use Rattle.svc_custody.proofs.AppendLemmas.{along_none, along_cons, along_is}
use Rattle.svc_custody.proofs.LineLemmas.{line_of_world}
use Rattle.svc_custody.proofs.EachLemmas.{totals_are}
use Rattle.svc_custody.proofs.SameLemmas.{SameReports, remitted_same, settled_same, no_rows}
use Rattle.svc_core.proofs.StillBooks.{SameMoney, quiet_money}

-- ---- one loan

-- the books of a loan on such a day
day_money : (n d : ℕ) (w : World) (l : Held) → IsHeld n w.today l → w.today ≤ d → month_of d ≡ month_of w.today → SameMoney (books_now l) (books_now (on_day d l))
day_money n d w l h le month = quiet_money l.account d h.limited.account (subst (λ t. t ≤ d) (sym h.today) le) (month ∙ ap month_of (sym h.today))

map_all : {A B : Type 0} (f g : A → B) (xs : List A) → All (λ x. f x ≡ g x) xs → map f xs ≡ map g xs
map_all f g [] h = refl
map_all f g (x ∷ xs) h = ap (λ y. y ∷ map f xs) (All-head (λ z. f z ≡ g z) x xs h) ∙ ap (λ ys. g x ∷ ys) (map_all f g xs (All-tail (λ z. f z ≡ g z) x xs h))

-- what is due for closed months stays
day_dues : (n d : ℕ) (w : World) (l : Held) → IsWorld n w → IsHeld n w.today l → w.today ≤ d → dues_sum w (on_day d l) ≡ dues_sum w l
unfolding dues_sum
day_dues n d w l is h le =
    let early = closed_early n w is in
    let months = months_of w.seals.reports in
    ap (total_by due_sum) (map_all (due_of (on_day d l)) (due_of l) months (λ i x lt. same_due (month_of w.today) l (on_day d l) (get_or months i x) (day_agrees_to n d w l le h) (boarded_by n w l h) (early i x lt)))

day_settled : (n d : ℕ) (w : World) (l : Held) → IsWorld n w → IsHeld n w.today l → w.today ≤ d → month_of d ≡ month_of w.today → is_settled w (on_day d l) ≡ is_settled w l
unfolding is_settled
day_settled n d w l is h le month =
    let sent = remitted_for w l.id in
    let dues = dues_sum w (on_day d l) in
    let satisfied : (books_now (on_day d l)).satisfied ≡ (books_now l).satisfied = ap (λ (b : Books). b.satisfied) (day_money n d w l h le month).is in
    ap (λ o. is_remitted_by o w.remitted && int_eq sent dues) satisfied
    ∙ ap (λ z. is_remitted_by (books_now l).satisfied w.remitted && int_eq sent z) (day_dues n d w l is h le)

-- a loan's position by what was remitted for it, its books and whether it is settled
abbrev position_by : Held → ℤ → Books → Bool → Position
position_by l sent b settled = record {
  totals = record {
    received = received l.account;
    returned = returned l.account;
    refunded = refunded l.account;
    disbursed = disbursed l.account;
    collected = b.interest +ℤ b.principal;
    fee = b.fee;
    late = b.late_paid;
    pi_advance = pi_advanced (collected b) sent settled;
    escrow_advance = escrow_advanced b.escrow;
    remitted = sent;
    residual = pi_residual (collected b) sent settled;
  };
  suspense = b.suspense;
  escrow = b.escrow;
  held = pi_held (collected b) sent settled;
}

day_position : (n d : ℕ) (w v : World) (l : Held) → IsWorld n w → IsHeld n w.today l → w.today ≤ d → month_of d ≡ month_of w.today → SameReports w v → position_of v (on_day d l) ≡ position_of w l
unfolding totals_of
day_position n d w v l is h le month same =
    let k = on_day d l in
    ap (λ r. position_by k r (books_now k) (is_settled v k)) (remitted_same w v l.id same)
    ∙ ap (position_by k (remitted_for w l.id) (books_now k)) (settled_same w v k same ∙ day_settled n d w l is h le month)
    ∙ ap (λ (b : Books). position_by k (remitted_for w l.id) b (is_settled w l)) (day_money n d w l h le month).is

-- ---- all loans

days_positions : (n d : ℕ) (w v : World) (ls : List Held) → IsWorld n w → All (IsHeld n w.today) ls → w.today ≤ d → month_of d ≡ month_of w.today → SameReports w v → map (position_of v) (map (on_day d) ls) ≡ map (position_of w) ls
days_positions n d w v [] is h le month same = refl
days_positions n d w v (l ∷ ls) is h le month same =
    ap (λ x. x ∷ map (position_of v) (map (on_day d) ls)) (day_position n d w v l is (All-head (IsHeld n w.today) l ls h) le month same)
    ∙ ap (λ xs. position_of w l ∷ xs) (days_positions n d w v ls is (All-tail (IsHeld n w.today) l ls h) le month same)

-- rows of totals that stay
no_rows_along : (n : ℕ) (w : World) (ls : List Held) → rows_along n w (map (totals_of w) ls) ls ≡ []
no_rows_along n w [] = along_none n w []
no_rows_along n w (l ∷ ls) =
    along_cons n w (totals_of w l) (map (totals_of w) ls) l ls
    ∙ ap (λ rs. rs ++ rows_along n w (map (totals_of w) ls) ls) (no_rows n l.id (totals_of w l))
    ∙ no_rows_along n w ls

-- the world on a later day
record IsLaterDay (d : ℕ) (w v : World) : Type 0 where
  loans : v.loans ≡ map (on_day d) w.loans
  same : SameReports w v

later_day : (n d : ℕ) (w : World) → IsLaterDay d w (after n w (command.Day d))
unfolding after loans_after seals_after
later_day n d w = record { loans = refl; same = record { reports = refl; remitted = refl } }

-- custody holds the same for each loan, with no row more and the same line
pub record IsUnmoved (n : ℕ) (w v : World) : Type 0 where
  pub positions : positions_of v ≡ positions_of w
  pub rows : rows_made n w v ≡ []
  pub line : custody_of v ≡ custody_of w

pub quiet_day : (n : ℕ) (w v : World) (c : Command) → IsWorld n w → refusal_of n w c ≡ None → IsWithinMonth c w.today → v ≡ after (n + 1) w c → IsUnmoved (n + 1) w v
quiet_day n w v c is fresh within made =
    let d = within.day in
    let later : IsLaterDay d w v = subst (IsLaterDay d w) (sym (made ∙ ap (after (n + 1) w) within.is)) (later_day (n + 1) d w) in
    let le = (day_later n d w (ap (refusal_of n w) (sym within.is) ∙ fresh)).0 in
    let numbers : numbers_of v.loans ≡ numbers_of w.loans = ap numbers_of later.loans ∙ mapped_numbers (on_day d) w.loans (λ k. refl) in
    let same : positions_of v ≡ positions_of w = ap (map (position_of v)) later.loans ∙ days_positions n d w v w.loans is is.held le within.month later.same in
    let totals : map (totals_of w) w.loans ≡ map (totals_of v) v.loans = sym (totals_are w w.loans) ∙ ap totals_in (sym same) ∙ totals_are v v.loans in
    record {
      positions = same;
      rows =
          sym (along_is (n + 1) w v w.loans v.loans numbers (all_found w.loans is.rising))
          ∙ ap (λ ts. rows_along (n + 1) v ts v.loans) totals
          ∙ no_rows_along (n + 1) v v.loans;
      line = sym (line_of_world v) ∙ ap line_in same ∙ line_of_world w;
    }
