-- The adjustments of a command, and the lines of a closing, for the loans of a set.
use Rattle.std.proofs.Common.{◌≡◌, ℕ, suc, ◌-◌, ◌≤◌, Bool, true, false, cond, not, List, [], ◌∷◌, ◌++◌, map, length, arith, refl, sym, ap, ◌∙◌}
use Rattle.std.specs.Prelude.{◌==◌, ◌||◌, ◌&&◌, nat_lt, nat_le, if◌then◌else◌, Option, Some, None, ℤ, pos, ◌+ℤ◌}
use Rattle.std.specs.List.{All, filter, list_any}
use Rattle.std.specs.Option.{option_map}
use Rattle.std.proofs.lemmas.List.Elements.{All-head, All-tail}
use Rattle.std.proofs.lemmas.Bool.Decides.{Decides-int_eq, nat_tests}
use Rattle.svc_base.specs.Sums.{total_by}
use Rattle.remit_types.specs.declared.dues.MonthDue.{MonthDue}
use Rattle.remit_types.specs.declared.dues.Carry.{Carry}
use Rattle.period_adjust.specs.declared.adjustment.Adjustment.{Adjustment}
use Rattle.period_adjust.specs.declared.report_line.ReportLine.{ReportLine}
use Rattle.period_adjust.specs.Sealed.{Sealed}
use Rattle.period_adjust.specs.Sums.{DuePart, Interest, Principal, share, line_with}
use Rattle.period_adjust.specs.Changes.{is_unchanged, change_of, adjustments_of}
use Rattle.svc_world.specs.Held.{Held, find_loan, boarded_month}
use Rattle.svc_world.specs.LoanDues.{due_of, carry_of}
use Rattle.svc_world.specs.Reports.{nothing_due, months_of, dues_for, changes_of, is_zero, is_adjusted, is_reported, line_of, lines_of}
use Rattle.svc_world.specs.Worlds.{due_by}
use Rattle.svc_world.proofs.ChangesLemmas.{IsSameDue, due_before}
use Rattle.svc_world.proofs.LoanListLemmas.{found_id, found_all}
use Rattle.servicing_transfer.proofs.Renumbering.{Counts, AreCounted}
use Rattle.servicing_transfer.proofs.ShownLoans.{loan_at, loans_shown, IsShown, due_of_at, carry_of_at, find_shown}

-- ---- adjustments

abbrev pub adjustment_at : (ℕ → ℕ) → Adjustment → Adjustment
adjustment_at place a = record a { number = place a.number }

-- the adjustments of a set's loans, as the part has them
abbrev pub adjustments_shown : (ℕ → Bool) → (ℕ → ℕ) → List Adjustment → List Adjustment
adjustments_shown set place [] = []
adjustments_shown set place (a ∷ as') = if set a.loan then adjustment_at place a ∷ adjustments_shown set place as' else adjustments_shown set place as'

pub shown_append : (set : ℕ → Bool) (place : ℕ → ℕ) (xs ys : List Adjustment) → adjustments_shown set place (xs ++ ys) ≡ adjustments_shown set place xs ++ adjustments_shown set place ys
shown_append set place [] ys = refl
shown_append set place (x ∷ xs) ys =
    let rest = shown_append set place xs ys in
    elim (set x.loan) as (λ v. (if v then adjustment_at place x ∷ adjustments_shown set place (xs ++ ys) else adjustments_shown set place (xs ++ ys)) ≡ (if v then adjustment_at place x ∷ adjustments_shown set place xs else adjustments_shown set place xs) ++ adjustments_shown set place ys) [
      | true ↦ ap (λ zs. adjustment_at place x ∷ zs) rest
      | false ↦ rest
    ]

pub fewer_adjustments : (set : ℕ → Bool) (place : ℕ → ℕ) (xs : List Adjustment) → length (adjustments_shown set place xs) ≤ length xs
fewer_adjustments set place [] = omega arith
fewer_adjustments set place (x ∷ xs) =
    let rest = fewer_adjustments set place xs in
    elim (set x.loan) as (λ v. length (if v then adjustment_at place x ∷ adjustments_shown set place xs else adjustments_shown set place xs) ≤ suc (length xs)) [
      | true ↦ omega (arith, rest)
      | false ↦ omega (arith, rest)
    ]

one_shown : (set : ℕ → Bool) (place : ℕ → ℕ) (n id : ℕ) (b d : MonthDue) → set id ≡ true → adjustments_shown set place (change_of n id b d) ≡ change_of (place n) id b d
one_shown set place n id b d is =
    elim (is_unchanged b d) as (λ v. adjustments_shown set place (if v then [] else Rattle.period_adjust.specs.Changes.adjustment n id b d ∷ []) ≡ (if v then [] else Rattle.period_adjust.specs.Changes.adjustment (place n) id b d ∷ [])) [
      | true ↦ refl
      | false ↦ ap (λ v. if v then Rattle.period_adjust.specs.Changes.adjustment (place n) id b d ∷ [] else []) is
    ]

other_shown : (set : ℕ → Bool) (place : ℕ → ℕ) (n id : ℕ) (b d : MonthDue) → set id ≡ false → adjustments_shown set place (change_of n id b d) ≡ []
other_shown set place n id b d is =
    elim (is_unchanged b d) as (λ v. adjustments_shown set place (if v then [] else Rattle.period_adjust.specs.Changes.adjustment n id b d ∷ []) ≡ []) [
      | true ↦ refl
      | false ↦ ap (λ v. if v then Rattle.period_adjust.specs.Changes.adjustment (place n) id b d ∷ [] else []) is
    ]

own_shown : (set months : ℕ → Bool) (place : ℕ → ℕ) (n id : ℕ) (x y x' y' : ℕ → MonthDue) (ms : List ℕ) → set id ≡ true → ((p : ℕ) → x' p ≡ x p) → ((p : ℕ) → y' p ≡ y p) → ((p : ℕ) → months p ≡ false → is_unchanged (x p) (y p) ≡ true) → adjustments_shown set place (adjustments_of n id (map x ms) (map y ms)) ≡ adjustments_of (place n) id (map x' (filter months ms)) (map y' (filter months ms))
own_shown set months place n id x y x' y' [] is sx sy early = refl
own_shown set months place n id x y x' y' (p ∷ ps) is sx sy early =
    let rest = own_shown set months place n id x y x' y' ps is sx sy early in
    let here = one_shown set place n id (x p) (y p) is in
    let all = shown_append set place (change_of n id (x p) (y p)) (adjustments_of n id (map x ps) (map y ps)) in
    elim (months p) as (λ v. months p ≡ v → adjustments_shown set place (change_of n id (x p) (y p) ++ adjustments_of n id (map x ps) (map y ps)) ≡ adjustments_of (place n) id (map x' (cond v (p ∷ filter months ps) (filter months ps))) (map y' (cond v (p ∷ filter months ps) (filter months ps)))) [
      | true ↦ λ e.
          all ∙ ap (λ zs. zs ++ adjustments_shown set place (adjustments_of n id (map x ps) (map y ps))) here
          ∙ ap (λ zs. change_of (place n) id (x p) (y p) ++ zs) rest
          ∙ ap (λ d. change_of (place n) id d (y p) ++ adjustments_of (place n) id (map x' (filter months ps)) (map y' (filter months ps))) (sym (sx p))
          ∙ ap (λ d. change_of (place n) id (x' p) d ++ adjustments_of (place n) id (map x' (filter months ps)) (map y' (filter months ps))) (sym (sy p))
      | false ↦ λ e.
          let none : change_of n id (x p) (y p) ≡ [] = ap (λ v. if v then [] else Rattle.period_adjust.specs.Changes.adjustment n id (x p) (y p) ∷ []) (early p e) in
          ap (λ zs. adjustments_shown set place (zs ++ adjustments_of n id (map x ps) (map y ps))) none ∙ rest
    ] refl

others_shown : (set : ℕ → Bool) (place : ℕ → ℕ) (n id : ℕ) (xs ys : List MonthDue) → set id ≡ false → adjustments_shown set place (adjustments_of n id xs ys) ≡ []
others_shown set place n id [] ys is = refl
others_shown set place n id (x ∷ xs) [] is = refl
others_shown set place n id (x ∷ xs) (y ∷ ys) is =
    shown_append set place (change_of n id x y) (adjustments_of n id xs ys)
    ∙ ap (λ zs. zs ++ adjustments_shown set place (adjustments_of n id xs ys)) (other_shown set place n id x y is)
    ∙ others_shown set place n id xs ys is

-- ---- all loans

unchanged : (b d z : MonthDue) → IsSameDue z b → IsSameDue z d → is_unchanged b d ≡ true
unchanged b d z one two =
    let i : b.interest ≡ d.interest = sym one.interest ∙ two.interest in
    let p : b.principal ≡ d.principal = sym one.principal ∙ two.principal in
    let i' = (Decides-int_eq b.interest d.interest).1 i in
    let p' = (Decides-int_eq b.principal d.principal).1 p in
    rw (i', p') refl

dues_are : (ms : List ℕ) (o : Option Held) → dues_for ms o ≡ map (due_by o) ms
dues_are ms None = refl
dues_are ms (Some l) = refl

-- what was due of a loan before, as the part has it
before_shown : (set months : ℕ → Bool) (place : ℕ → ℕ) (id : ℕ) (o : Option Held) (p : ℕ) → Counts place → set id ≡ true → Rattle.std.specs.Prelude.IfSome o (λ k. IsShown set months place k × (k.id ≡ id)) → due_by (option_map (loan_at place) o) p ≡ due_by o p
before_shown set months place id None p counts is h = refl
before_shown set months place id (Some k) p counts is h = due_of_at place k p counts (h.0.counted (ap set h.1 ∙ is))

before_early : (set months : ℕ → Bool) (place : ℕ → ℕ) (id : ℕ) (o : Option Held) (p : ℕ) → set id ≡ true → months p ≡ false → Rattle.std.specs.Prelude.IfSome o (λ k. IsShown set months place k × (k.id ≡ id)) → IsSameDue (nothing_due p) (due_by o p)
before_early set months place id None p is early h = record { interest = refl; principal = refl }
before_early set months place id (Some k) p is early h = due_before k p (h.0.since (ap set h.1 ∙ is) p early)

found_shown : (set months : ℕ → Bool) (place : ℕ → ℕ) (id : ℕ) (ls : List Held) (o : Option Held) → find_loan id ls ≡ o → All (IsShown set months place) ls → Rattle.std.specs.Prelude.IfSome o (λ k. IsShown set months place k × (k.id ≡ id))
found_shown set months place id ls None e h = tt
found_shown set months place id ls (Some k) e h = (found_all (IsShown set months place) id ls k e h, found_id id ls k e)

pub changes_shown : (set months : ℕ → Bool) (place : ℕ → ℕ) (n : ℕ) (ms : List ℕ) (before later : List Held) → Counts place → All (IsShown set months place) before → All (IsShown set months place) later → adjustments_shown set place (changes_of n ms before later) ≡ changes_of (place n) (filter months ms) (loans_shown set place before) (loans_shown set place later)
unfolding changes_of
changes_shown set months place n ms before [] counts hb hl = refl
changes_shown set months place n ms before (l ∷ ls) counts hb hl =
    let rest = changes_shown set months place n ms before ls counts hb (All-tail (IsShown set months place) l ls hl) in
    let here = All-head (IsShown set months place) l ls hl in
    let was = found_shown set months place l.id before (find_loan l.id before) refl hb in
    let all = shown_append set place (adjustments_of n l.id (dues_for ms (find_loan l.id before)) (map (due_of l) ms)) (changes_of n ms before ls) in
    all ∙ elim (set l.id) as (λ v. set l.id ≡ v → adjustments_shown set place (adjustments_of n l.id (dues_for ms (find_loan l.id before)) (map (due_of l) ms)) ++ adjustments_shown set place (changes_of n ms before ls) ≡ changes_of (place n) (filter months ms) (loans_shown set place before) (if v then loan_at place l ∷ loans_shown set place ls else loans_shown set place ls)) [
      | true ↦ λ is.
          let own = own_shown set months place n l.id (due_by (find_loan l.id before)) (due_of l) (due_by (find_loan l.id (loans_shown set place before))) (due_of (loan_at place l)) ms is
          (λ p. ap (λ o. due_by o p) (find_shown set place l.id before is) ∙ before_shown set months place l.id (find_loan l.id before) p counts is was)
          (λ p. due_of_at place l p counts (here.counted is))
          (λ p early. unchanged (due_by (find_loan l.id before) p) (due_of l p) (nothing_due p) (before_early set months place l.id (find_loan l.id before) p is early was) (due_before l p (here.since is p early))) in
          ap (λ zs. zs ++ adjustments_shown set place (changes_of n ms before ls))
          (ap (λ ds. adjustments_shown set place (adjustments_of n l.id ds (map (due_of l) ms))) (dues_are ms (find_loan l.id before)) ∙ own
          ∙ ap (λ ds. adjustments_of (place n) l.id ds (map (due_of (loan_at place l)) (filter months ms))) (sym (dues_are (filter months ms) (find_loan l.id (loans_shown set place before)))))
          ∙ ap (λ zs. adjustments_of (place n) l.id (dues_for (filter months ms) (find_loan l.id (loans_shown set place before))) (map (due_of (loan_at place l)) (filter months ms)) ++ zs) rest
      | false ↦ λ is.
          ap (λ zs. zs ++ adjustments_shown set place (changes_of n ms before ls)) (others_shown set place n l.id (dues_for ms (find_loan l.id before)) (map (due_of l) ms) is) ∙ rest
    ] refl

-- ---- reports

-- the lines of a set's loans
abbrev pub lines_in : (ℕ → Bool) → List ReportLine → List ReportLine
lines_in set lines = filter (λ (l : ReportLine). set l.loan) lines

abbrev pub report_shown : (ℕ → Bool) → (ℕ → ℕ) → Sealed → Sealed
report_shown set place r = record { month = r.month; lines = lines_in set r.lines; adjustments = adjustments_shown set place r.adjustments }

-- the reports of a part's months, with what they say of its loans
abbrev pub reports_shown : (ℕ → Bool) → (ℕ → Bool) → (ℕ → ℕ) → List Sealed → List Sealed
reports_shown set months place [] = []
reports_shown set months place (r ∷ rs) = if months r.month then report_shown set place r ∷ reports_shown set months place rs else reports_shown set months place rs

pub months_shown : (set months : ℕ → Bool) (place : ℕ → ℕ) (rs : List Sealed) → months_of (reports_shown set months place rs) ≡ filter months (months_of rs)
months_shown set months place [] = refl
months_shown set months place (r ∷ rs) =
    let rest = months_shown set months place rs in
    elim (months r.month) as (λ v. months_of (if v then report_shown set place r ∷ reports_shown set months place rs else reports_shown set months place rs) ≡ cond v (r.month ∷ filter months (months_of rs)) (filter months (months_of rs))) [
      | true ↦ ap (λ ms. r.month ∷ ms) rest
      | false ↦ rest
    ]

pub reports_append : (set months : ℕ → Bool) (place : ℕ → ℕ) (rs ss : List Sealed) → reports_shown set months place (rs ++ ss) ≡ reports_shown set months place rs ++ reports_shown set months place ss
reports_append set months place [] ss = refl
reports_append set months place (r ∷ rs) ss =
    let rest = reports_append set months place rs ss in
    elim (months r.month) as (λ v. (if v then report_shown set place r ∷ reports_shown set months place (rs ++ ss) else reports_shown set months place (rs ++ ss)) ≡ (if v then report_shown set place r ∷ reports_shown set months place rs else reports_shown set months place rs) ++ reports_shown set months place ss) [
      | true ↦ ap (λ zs. report_shown set place r ∷ zs) rest
      | false ↦ rest
    ]

part_at : (place : ℕ → ℕ) (part : DuePart) (id : ℕ) (a : Adjustment) → share part id (adjustment_at place a) ≡ share part id a
part_at place Interest id a = refl
part_at place Principal id a = refl

-- an adjustment of another loan adds nothing
no_share : (part : DuePart) (id : ℕ) (a : Adjustment) → (a.loan == id) ≡ false → share part id a ≡ pos 0
no_share part id a e = ap (λ v. if v then Rattle.period_adjust.specs.Sums.part_of_adjustment part a else pos 0) e

another : (set : ℕ → Bool) (i id : ℕ) → set id ≡ true → set i ≡ false → (i == id) ≡ false
another set i id is out =
    elim (i == id) as (λ v. (i == id) ≡ v → v ≡ false) [
      | true ↦ λ e. let same : i ≡ id = grind (arith, nat_tests) in let both : set i ≡ true = ap set same ∙ is in absurd (cc)
      | false ↦ λ e. refl
    ] refl

sums_shown : (set : ℕ → Bool) (place : ℕ → ℕ) (part : DuePart) (id : ℕ) (xs : List Adjustment) → set id ≡ true → total_by (share part id) (adjustments_shown set place xs) ≡ total_by (share part id) xs
sums_shown set place part id [] is = refl
sums_shown set place part id (x ∷ xs) is =
    let rest = sums_shown set place part id xs is in
    elim (set x.loan) as (λ v. set x.loan ≡ v → total_by (share part id) (if v then adjustment_at place x ∷ adjustments_shown set place xs else adjustments_shown set place xs) ≡ share part id x +ℤ total_by (share part id) xs) [
      | true ↦ λ e. ap (λ z. z +ℤ total_by (share part id) (adjustments_shown set place xs)) (part_at place part id x) ∙ ap (λ z. share part id x +ℤ z) rest
      | false ↦ λ e.
          let none = no_share part id x (another set x.loan id is e) in
          rest ∙ nothing (total_by (share part id) xs) ∙ ap (λ z. z +ℤ total_by (share part id) xs) (sym none)
    ] refl
  where
    nothing : (z : ℤ) → z ≡ pos 0 +ℤ z
    nothing z = omega (arith, Rattle.std.proofs.lemmas.Int.ints)

adjusted_shown : (set : ℕ → Bool) (place : ℕ → ℕ) (id : ℕ) (xs : List Adjustment) → set id ≡ true → is_adjusted (adjustments_shown set place xs) id ≡ is_adjusted xs id
adjusted_shown set place id [] is = refl
adjusted_shown set place id (x ∷ xs) is =
    let rest = adjusted_shown set place id xs is in
    elim (set x.loan) as (λ v. set x.loan ≡ v → is_adjusted (if v then adjustment_at place x ∷ adjustments_shown set place xs else adjustments_shown set place xs) id ≡ ((x.loan == id) || is_adjusted xs id)) [
      | true ↦ λ e. ap (λ b. (x.loan == id) || b) rest
      | false ↦ λ e. rest ∙ ap (λ b. b || is_adjusted xs id) (sym (another set x.loan id is e))
    ] refl

-- what is looked at for a line
abbrev reported_by : ℕ → ℕ → Carry → Carry → MonthDue → Bool → Bool
reported_by b p before at due adjusted =
    nat_le b p && (
    not (is_zero before.upb) || not (is_zero before.balance)
    || not (is_zero due.interest) || not (is_zero due.principal)
    || adjusted)

reported_shown : (set : ℕ → Bool) (place : ℕ → ℕ) (pending : List Adjustment) (p : ℕ) (l : Held) → Counts place → AreCounted place l.account → set l.id ≡ true → is_reported (adjustments_shown set place pending) p (loan_at place l) ≡ is_reported pending p l
reported_shown set place pending p l counts are is =
    ap (λ c. reported_by (boarded_month l) p c c (due_of (loan_at place l) p) (is_adjusted (adjustments_shown set place pending) l.id)) (carry_of_at place l (p - 1) counts are)
    ∙ ap (λ d. reported_by (boarded_month l) p (carry_of l (p - 1)) (carry_of l (p - 1)) d (is_adjusted (adjustments_shown set place pending) l.id)) (due_of_at place l p counts are)
    ∙ ap (λ b. reported_by (boarded_month l) p (carry_of l (p - 1)) (carry_of l (p - 1)) (due_of l p) b) (adjusted_shown set place l.id pending is)

abbrev line_by : ℕ → MonthDue → Carry → ℤ → ℤ → ReportLine
line_by id d c i p = record { loan = id; interest = d.interest; principal = d.principal; adj_interest = i; adj_principal = p; upb = c.upb; balance = c.balance }

line_shown : (set : ℕ → Bool) (place : ℕ → ℕ) (pending : List Adjustment) (p : ℕ) (l : Held) → Counts place → AreCounted place l.account → set l.id ≡ true → line_with (adjustments_shown set place pending) (line_of p (loan_at place l)) ≡ line_with pending (line_of p l)
line_shown set place pending p l counts are is =
    let shown = adjustments_shown set place pending in
    let k = loan_at place l in
    ap (λ d. line_by l.id d (carry_of k p) (total_by (share Interest l.id) shown) (total_by (share Principal l.id) shown)) (due_of_at place l p counts are)
    ∙ ap (λ c. line_by l.id (due_of l p) c (total_by (share Interest l.id) shown) (total_by (share Principal l.id) shown)) (carry_of_at place l p counts are)
    ∙ ap (λ z. line_by l.id (due_of l p) (carry_of l p) z (total_by (share Principal l.id) shown)) (sums_shown set place Interest l.id pending is)
    ∙ ap (λ z. line_by l.id (due_of l p) (carry_of l p) (total_by (share Interest l.id) pending) z) (sums_shown set place Principal l.id pending is)

-- the lines of a closing
abbrev closed : List Adjustment → ℕ → List Held → List ReportLine
closed pending p loans = map (line_with pending) (map (line_of p) (filter (is_reported pending p) loans))

lines_are : (set months : ℕ → Bool) (place : ℕ → ℕ) (pending : List Adjustment) (p : ℕ) (loans : List Held) → Counts place → All (IsShown set months place) loans → lines_in set (closed pending p loans) ≡ closed (adjustments_shown set place pending) p (loans_shown set place loans)
lines_are set months place pending p [] counts h = refl
lines_are set months place pending p (l ∷ ls) counts h =
    let rest = lines_are set months place pending p ls counts (All-tail (IsShown set months place) l ls h) in
    let here = All-head (IsShown set months place) l ls h in
    let shown = adjustments_shown set place pending in
    elim (set l.id) as (λ v. set l.id ≡ v → lines_in set (closed pending p (l ∷ ls)) ≡ closed shown p (if v then loan_at place l ∷ loans_shown set place ls else loans_shown set place ls)) [
      | true ↦ λ is.
          let same = reported_shown set place pending p l counts (here.counted is) is in
          let line = line_shown set place pending p l counts (here.counted is) is in
          inside is same line rest
      | false ↦ λ is. outside is rest
    ] refl
  where
    inside : set l.id ≡ true → is_reported (adjustments_shown set place pending) p (loan_at place l) ≡ is_reported pending p l → line_with (adjustments_shown set place pending) (line_of p (loan_at place l)) ≡ line_with pending (line_of p l) → lines_in set (closed pending p ls) ≡ closed (adjustments_shown set place pending) p (loans_shown set place ls) → lines_in set (closed pending p (l ∷ ls)) ≡ closed (adjustments_shown set place pending) p (loan_at place l ∷ loans_shown set place ls)
    inside is same line rest =
        let shown = adjustments_shown set place pending in
        elim (is_reported pending p l) as (λ v. is_reported pending p l ≡ v → lines_in set (map (line_with pending) (map (line_of p) (cond v (l ∷ filter (is_reported pending p) ls) (filter (is_reported pending p) ls)))) ≡ closed shown p (loan_at place l ∷ loans_shown set place ls)) [
          | true ↦ λ e.
              ap (λ v. cond v (line_with pending (line_of p l) ∷ lines_in set (closed pending p ls)) (lines_in set (closed pending p ls))) is
              ∙ ap (λ x. x ∷ lines_in set (closed pending p ls)) (sym line)
              ∙ ap (λ xs. line_with shown (line_of p (loan_at place l)) ∷ xs) rest
              ∙ sym (ap (λ v. map (line_with shown) (map (line_of p) (cond v (loan_at place l ∷ filter (is_reported shown p) (loans_shown set place ls)) (filter (is_reported shown p) (loans_shown set place ls))))) (same ∙ e))
          | false ↦ λ e.
              rest ∙ sym (ap (λ v. map (line_with shown) (map (line_of p) (cond v (loan_at place l ∷ filter (is_reported shown p) (loans_shown set place ls)) (filter (is_reported shown p) (loans_shown set place ls))))) (same ∙ e))
        ] refl

    outside : set l.id ≡ false → lines_in set (closed pending p ls) ≡ closed (adjustments_shown set place pending) p (loans_shown set place ls) → lines_in set (closed pending p (l ∷ ls)) ≡ closed (adjustments_shown set place pending) p (loans_shown set place ls)
    outside is rest =
        elim (is_reported pending p l) as (λ v. lines_in set (map (line_with pending) (map (line_of p) (cond v (l ∷ filter (is_reported pending p) ls) (filter (is_reported pending p) ls)))) ≡ closed (adjustments_shown set place pending) p (loans_shown set place ls)) [
          | true ↦ ap (λ v. cond v (line_with pending (line_of p l) ∷ lines_in set (closed pending p ls)) (lines_in set (closed pending p ls))) is ∙ rest
          | false ↦ rest
        ]

pub lines_shown : (set months : ℕ → Bool) (place : ℕ → ℕ) (pending : List Adjustment) (p : ℕ) (loans : List Held) → Counts place → All (IsShown set months place) loans → lines_in set (map (line_with pending) (lines_of pending p loans)) ≡ map (line_with (adjustments_shown set place pending)) (lines_of (adjustments_shown set place pending) p (loans_shown set place loans))
unfolding lines_of
lines_shown set months place pending p loans counts h = lines_are set months place pending p loans counts h
