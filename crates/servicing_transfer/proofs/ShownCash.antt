-- What is held for the loans of a set and for all others is what is held for all.
use Rattle.std.proofs.Common.{◌≡◌, ℕ, ◌≤◌, ◌<◌, Bool, true, false, cond, not, List, [], ◌∷◌, map, get_or, arith, refl, sym, ap, subst, ◌∙◌}
use Rattle.std.specs.Prelude.{◌==◌, ◌&&◌, nat_le, if◌then◌else◌, Option, Some, None, IfSome, ℤ, pos, ◌+ℤ◌}
use Rattle.std.specs.Ordering.{int_eq}
use Rattle.std.specs.List.{All, filter}
use Rattle.std.proofs.lemmas.Int.{ints}
use Rattle.std.proofs.lemmas.List.Elements.{All-head, All-tail}
use Rattle.std.proofs.lemmas.Bool.Decides.{nat_tests}
use Rattle.svc_base.specs.Calendar.{month_of}
use Rattle.svc_base.specs.Sums.{total_by}
use Rattle.svc_types.specs.declared.books.Books.{Books}
use Rattle.remit_types.specs.declared.dues.MonthDue.{MonthDue}
use Rattle.advance_book.specs.Positions.{pi_held, escrow_advanced}
use Rattle.period_adjust.specs.declared.report_line.ReportLine.{ReportLine}
use Rattle.period_adjust.specs.Sealed.{Sealed}
use Rattle.svc_world.specs.Held.{Held, books_now}
use Rattle.svc_world.specs.LoanDues.{due_of}
use Rattle.svc_world.specs.Reports.{months_of}
use Rattle.svc_world.specs.World.{World, Accepted, world}
use Rattle.svc_world.specs.Judging.{IsHistory}
use Rattle.svc_world.specs.Custody.{sent_of_line, sent_for, remitted_reports, remitted_for, collected, due_sum, dues_sum, is_remitted_by, is_settled, held_for, borrower_cash, custody_of}
use Rattle.svc_world.specs.Worlds.{IsListed}
use Rattle.svc_world.proofs.ChangesLemmas.{due_before}
use Rattle.svc_world.proofs.HistoryLemmas.{is_world}
use Rattle.servicing_transfer.specs.Parts.{in_range, out_of_range, is_since, months_for, place_in, part_of}
use Rattle.servicing_transfer.specs.Splits.{IsKeptPart, Splits}
use Rattle.servicing_transfer.proofs.Renumbering.{Counts, AreCounted}
use Rattle.servicing_transfer.proofs.ShownLoans.{loan_at, loans_shown, IsShown, now_shown, due_of_at}
use Rattle.servicing_transfer.proofs.ShownChanges.{lines_in, report_shown, reports_shown, months_shown}
use Rattle.servicing_transfer.proofs.StepShown.{remitted_shown, shown, All_shown}
use Rattle.servicing_transfer.proofs.ShownRefusals.{IsUpward}
use Rattle.servicing_transfer.proofs.Timely.{since_upward}
use Rattle.servicing_transfer.proofs.PartPlaces.{place_counts}
use Rattle.servicing_transfer.proofs.PartTheorem.{part_world, final_shown, part_kept, not_listed}
use Rattle.servicing_transfer.proofs.SatisfiedLemmas.{satisfied_since}

-- ---- sums over both sets

split_sum : (set : ℕ → Bool) (place place' : ℕ → ℕ) (f g g' : Held → ℤ) (ls : List Held) → All (λ l. set l.id ≡ true → g (loan_at place l) ≡ f l) ls → All (λ l. set l.id ≡ false → g' (loan_at place' l) ≡ f l) ls → total_by f ls ≡ total_by g (loans_shown set place ls) +ℤ total_by g' (loans_shown (λ i. not (set i)) place' ls)
split_sum set place place' f g g' [] h h' = omega (arith, ints)
split_sum set place place' f g g' (l ∷ ls) h h' =
    let rest = split_sum set place place' f g g' ls (All-tail (λ l. set l.id ≡ true → g (loan_at place l) ≡ f l) l ls h) (All-tail (λ l. set l.id ≡ false → g' (loan_at place' l) ≡ f l) l ls h') in
    let one = All-head (λ l. set l.id ≡ true → g (loan_at place l) ≡ f l) l ls h in
    let two = All-head (λ l. set l.id ≡ false → g' (loan_at place' l) ≡ f l) l ls h' in
    elim (set l.id) as (λ v. (v ≡ true → g (loan_at place l) ≡ f l) → (v ≡ false → g' (loan_at place' l) ≡ f l) → f l +ℤ total_by f ls ≡ total_by g (if v then loan_at place l ∷ loans_shown set place ls else loans_shown set place ls) +ℤ total_by g' (if not v then loan_at place' l ∷ loans_shown (λ i. not (set i)) place' ls else loans_shown (λ i. not (set i)) place' ls)) [
      | true ↦ λ a b. inside (f l) (g (loan_at place l)) (total_by f ls) (total_by g (loans_shown set place ls)) (total_by g' (loans_shown (λ i. not (set i)) place' ls)) (a refl) rest
      | false ↦ λ a b. outside (f l) (g' (loan_at place' l)) (total_by f ls) (total_by g (loans_shown set place ls)) (total_by g' (loans_shown (λ i. not (set i)) place' ls)) (b refl) rest
    ] one two
  where
    inside : (x y z a b : ℤ) → y ≡ x → z ≡ a +ℤ b → x +ℤ z ≡ (y +ℤ a) +ℤ b
    inside x y z a b e r = omega (arith, ints)

    outside : (x y z a b : ℤ) → y ≡ x → z ≡ a +ℤ b → x +ℤ z ≡ a +ℤ (y +ℤ b)
    outside x y z a b e r = omega (arith, ints)

-- ---- the account T

cash_shown : (place : ℕ → ℕ) (l : Held) → Counts place → AreCounted place l.account → borrower_cash (loan_at place l) ≡ borrower_cash l
cash_shown place l counts are = ap (λ (b : Books). b.suspense +ℤ b.escrow +ℤ escrow_advanced b.escrow) (now_shown place l counts are)

-- ---- what was remitted for a loan

-- a report's lines of another set say nothing of the loan
sent_in : (set : ℕ → Bool) (id : ℕ) (xs : List ReportLine) → set id ≡ true → total_by (λ (l : ReportLine). if l.loan == id then sent_of_line l else pos 0) (lines_in set xs) ≡ total_by (λ (l : ReportLine). if l.loan == id then sent_of_line l else pos 0) xs
sent_in set id [] is = refl
sent_in set id (x ∷ xs) is =
    let rest = sent_in set id xs is in
    let f : ReportLine → ℤ = λ l. if l.loan == id then sent_of_line l else pos 0 in
    elim (set x.loan) as (λ v. set x.loan ≡ v → total_by f (cond v (x ∷ lines_in set xs) (lines_in set xs)) ≡ f x +ℤ total_by f xs) [
      | true ↦ λ e. ap (λ z. f x +ℤ z) rest
      | false ↦ λ e. rest ∙ nothing (total_by f xs) ∙ ap (λ z. z +ℤ total_by f xs) (sym (gone e))
    ] refl
  where
    nothing : (z : ℤ) → z ≡ pos 0 +ℤ z
    nothing z = omega (arith, ints)

    gone : set x.loan ≡ false → (if x.loan == id then sent_of_line x else pos 0) ≡ pos 0
    gone out = elim (x.loan == id) as (λ v. (x.loan == id) ≡ v → (if v then sent_of_line x else pos 0) ≡ pos 0) [
      | true ↦ λ e. let same : x.loan ≡ id = grind (arith, nat_tests) in let both : set x.loan ≡ true = ap set same ∙ is in absurd (cc)
      | false ↦ λ e. refl
    ] refl

-- a report before the part's months says nothing of it
sent_none : (set : ℕ → Bool) (id : ℕ) (xs : List ReportLine) → set id ≡ true → All (λ (l : ReportLine). set l.loan ≡ false) xs → total_by (λ (l : ReportLine). if l.loan == id then sent_of_line l else pos 0) xs ≡ pos 0
sent_none set id [] is h = refl
sent_none set id (x ∷ xs) is h =
    let f : ReportLine → ℤ = λ l. if l.loan == id then sent_of_line l else pos 0 in
    let rest = sent_none set id xs is (All-tail (λ (l : ReportLine). set l.loan ≡ false) x xs h) in
    let out = All-head (λ (l : ReportLine). set l.loan ≡ false) x xs h in
    ap (λ z. z +ℤ total_by f xs) (gone out) ∙ ap (λ z. pos 0 +ℤ z) rest ∙ zero_sum
  where
    zero_sum : pos 0 +ℤ pos 0 ≡ pos 0
    zero_sum = omega (arith, ints)

    gone : set x.loan ≡ false → (if x.loan == id then sent_of_line x else pos 0) ≡ pos 0
    gone out = elim (x.loan == id) as (λ v. (x.loan == id) ≡ v → (if v then sent_of_line x else pos 0) ≡ pos 0) [
      | true ↦ λ e. let same : x.loan ≡ id = grind (arith, nat_tests) in let both : set x.loan ≡ true = ap set same ∙ is in absurd (cc)
      | false ↦ λ e. refl
    ] refl

-- a report before the part's months has no line of the set
abbrev IsUnlisted : (ℕ → Bool) → (ℕ → Bool) → Sealed → Type 0
IsUnlisted set months r = months r.month ≡ false → All (λ (l : ReportLine). set l.loan ≡ false) r.lines

-- what was sent by the reports up to a month
abbrev sent_by : ℕ → ℕ → List Sealed → ℤ
sent_by id last rs = total_by (sent_for id) (filter (λ (r : Sealed). nat_le r.month last) rs)

sent_shown : (set months : ℕ → Bool) (place : ℕ → ℕ) (id last : ℕ) (rs : List Sealed) → set id ≡ true → All (IsUnlisted set months) rs → sent_by id last (reports_shown set months place rs) ≡ sent_by id last rs
sent_shown set months place id last [] is h = refl
sent_shown set months place id last (r ∷ rs) is h =
    let rest = sent_shown set months place id last rs is (All-tail (IsUnlisted set months) r rs h) in
    let here = All-head (IsUnlisted set months) r rs h in
    elim (months r.month) as (λ v. months r.month ≡ v → sent_by id last (if v then report_shown set place r ∷ reports_shown set months place rs else reports_shown set months place rs) ≡ sent_by id last (r ∷ rs)) [
      | true ↦ λ e. elim (nat_le r.month last) as (λ v. total_by (sent_for id) (cond v (report_shown set place r ∷ filter (λ (x : Sealed). nat_le x.month last) (reports_shown set months place rs)) (filter (λ (x : Sealed). nat_le x.month last) (reports_shown set months place rs))) ≡ total_by (sent_for id) (cond v (r ∷ filter (λ (x : Sealed). nat_le x.month last) rs) (filter (λ (x : Sealed). nat_le x.month last) rs))) [
        | true ↦ ap (λ z. z +ℤ sent_by id last (reports_shown set months place rs)) (sent_in set id r.lines is) ∙ ap (λ z. sent_for id r +ℤ z) rest
        | false ↦ rest
      ]
      | false ↦ λ e. elim (nat_le r.month last) as (λ v. sent_by id last (reports_shown set months place rs) ≡ total_by (sent_for id) (cond v (r ∷ filter (λ (x : Sealed). nat_le x.month last) rs) (filter (λ (x : Sealed). nat_le x.month last) rs))) [
        | true ↦ rest ∙ nothing (sent_by id last rs) ∙ ap (λ z. z +ℤ sent_by id last rs) (sym (sent_none set id r.lines is (here e)))
        | false ↦ rest
      ]
    ] refl
  where
    nothing : (z : ℤ) → z ≡ pos 0 +ℤ z
    nothing z = omega (arith, ints)

-- where no month of the part is among those remitted, nothing was sent for the loan
sent_nothing : (set months : ℕ → Bool) (id last : ℕ) (rs : List Sealed) → set id ≡ true → IsUpward months → months last ≡ false → All (IsUnlisted set months) rs → sent_by id last rs ≡ pos 0
sent_nothing set months id last [] is up out h = refl
sent_nothing set months id last (r ∷ rs) is up out h =
    let rest = sent_nothing set months id last rs is up out (All-tail (IsUnlisted set months) r rs h) in
    let here = All-head (IsUnlisted set months) r rs h in
    elim (nat_le r.month last) as (λ v. nat_le r.month last ≡ v → total_by (sent_for id) (cond v (r ∷ filter (λ (x : Sealed). nat_le x.month last) rs) (filter (λ (x : Sealed). nat_le x.month last) rs)) ≡ pos 0) [
      | true ↦ λ e.
          let le : r.month ≤ last = grind (arith, nat_tests) in
          ap (λ z. z +ℤ sent_by id last rs) (sent_none set id r.lines is (here (before r.month le))) ∙ ap (λ z. pos 0 +ℤ z) rest ∙ zero_sum
      | false ↦ λ e. rest
    ] refl
  where
    zero_sum : pos 0 +ℤ pos 0 ≡ pos 0
    zero_sum = omega (arith, ints)

    before : (q : ℕ) → q ≤ last → months q ≡ false
    before q le = elim (months q) as (λ v. months q ≡ v → v ≡ false) [
      | true ↦ λ e. let both : months last ≡ true = up q last le e in absurd (cc)
      | false ↦ λ e. refl
    ] refl

remitted_is : (set months : ℕ → Bool) (place : ℕ → ℕ) (id : ℕ) (o : Option ℕ) (rs : List Sealed) → set id ≡ true → IsUpward months → All (IsUnlisted set months) rs → total_by (sent_for id) (remitted_reports (remitted_shown months o) (reports_shown set months place rs)) ≡ total_by (sent_for id) (remitted_reports o rs)
remitted_is set months place id None rs is up h = refl
remitted_is set months place id (Some last) rs is up h =
    elim (months last) as (λ v. months last ≡ v → total_by (sent_for id) (remitted_reports (if v then Some last else None) (reports_shown set months place rs)) ≡ sent_by id last rs) [
      | true ↦ λ e. sent_shown set months place id last rs is h
      | false ↦ λ e. sym (sent_nothing set months id last rs is up e h)
    ] refl

-- ---- what is due for closed months

dues_are : (set months : ℕ → Bool) (place : ℕ → ℕ) (l : Held) (ms : List ℕ) → Counts place → IsShown set months place l → set l.id ≡ true → total_by due_sum (map (due_of (loan_at place l)) (filter months ms)) ≡ total_by due_sum (map (due_of l) ms)
dues_are set months place l [] counts h is = refl
dues_are set months place l (p ∷ ps) counts h is =
    let rest = dues_are set months place l ps counts h is in
    elim (months p) as (λ v. months p ≡ v → total_by due_sum (map (due_of (loan_at place l)) (cond v (p ∷ filter months ps) (filter months ps))) ≡ due_sum (due_of l p) +ℤ total_by due_sum (map (due_of l) ps)) [
      | true ↦ λ e. ap (λ d. due_sum d +ℤ total_by due_sum (map (due_of (loan_at place l)) (filter months ps))) (due_of_at place l p counts (h.counted is)) ∙ ap (λ z. due_sum (due_of l p) +ℤ z) rest
      | false ↦ λ e.
          let none = due_before l p (h.since is p e) in
          rest ∙ nothing (due_of l p) (total_by due_sum (map (due_of l) ps)) (sym none.interest) (sym none.principal)
    ] refl
  where
    nothing : (d : MonthDue) (z : ℤ) → d.interest ≡ pos 0 → d.principal ≡ pos 0 → z ≡ due_sum d +ℤ z
    nothing d z i q = omega (arith, ints)

-- ---- the account P

-- a satisfied loan's month is none before the part's
marked_shown : (months : ℕ → Bool) (o : Option ℕ) (low : ℕ) (remitted : Option ℕ) → IfSome o (λ s. low ≤ s) → ((p : ℕ) → months p ≡ false → p < month_of low) → is_remitted_by o (remitted_shown months remitted) ≡ is_remitted_by o remitted
marked_shown months None low remitted h since = refl
marked_shown months (Some day) low None h since = refl
marked_shown months (Some day) low (Some last) h since =
    elim (months last) as (λ v. months last ≡ v → is_remitted_by (Some day) (if v then Some last else None) ≡ nat_le (month_of day) last) [
      | true ↦ λ e. refl
      | false ↦ λ e.
          let lt : last < month_of low = since last e in
          let le : month_of low ≤ month_of day = omega (arith, h) in
          sym (late (month_of day) last (omega arith))
    ] refl
  where
    late : (a b : ℕ) → b < a → nat_le a b ≡ false
    late a b lt = grind (arith, nat_tests)

settled_is : (set months : ℕ → Bool) (place : ℕ → ℕ) (w : World) (l : Held) → Counts place → IsUpward months → IsShown set months place l → Rattle.svc_spec.specs.Accounts.IsAccount l.account → set l.id ≡ true → All (IsUnlisted set months) w.seals.reports → is_settled (shown set months place w) (loan_at place l) ≡ is_settled w l
unfolding is_settled remitted_for dues_sum
settled_is set months place w l counts up h account is unlisted =
    let v = shown set months place w in
    let k = loan_at place l in
    let rem = remitted_is set months place l.id w.remitted w.seals.reports is up unlisted in
    let due : dues_sum v k ≡ dues_sum w l = ap (λ ms. total_by due_sum (map (due_of k) ms)) (months_shown set months place w.seals.reports) ∙ dues_are set months place l (months_of w.seals.reports) counts h is in
    ap (λ (b : Books). is_remitted_by b.satisfied (remitted_shown months w.remitted) && int_eq (remitted_for v l.id) (dues_sum v k)) (now_shown place l counts (h.counted is))
    ∙ ap (λ x. x && int_eq (remitted_for v l.id) (dues_sum v k)) (marked_shown months (books_now l).satisfied l.account.terms.boarded w.remitted (satisfied_since l.account l.account.today account) (h.since is))
    ∙ ap (λ x. is_remitted_by (books_now l).satisfied w.remitted && int_eq x (dues_sum v k)) rem
    ∙ ap (λ x. is_remitted_by (books_now l).satisfied w.remitted && int_eq (remitted_for w l.id) x) due

held_is : (set months : ℕ → Bool) (place : ℕ → ℕ) (w : World) (l : Held) → Counts place → IsUpward months → IsShown set months place l → Rattle.svc_spec.specs.Accounts.IsAccount l.account → set l.id ≡ true → All (IsUnlisted set months) w.seals.reports → held_for (shown set months place w) (loan_at place l) ≡ held_for w l
unfolding remitted_for
held_is set months place w l counts up h account is unlisted =
    let v = shown set months place w in
    ap (λ (b : Books). pi_held (collected b) (remitted_for v l.id) (is_settled v (loan_at place l))) (now_shown place l counts (h.counted is))
    ∙ ap (λ x. pi_held (collected (books_now l)) x (is_settled v (loan_at place l))) (remitted_is set months place l.id w.remitted w.seals.reports is up unlisted)
    ∙ ap (λ x. pi_held (collected (books_now l)) (remitted_for w l.id) x) (settled_is set months place w l counts up h account is unlisted)

-- ---- both parts

unlisted : (set months : ℕ → Bool) (place : ℕ → ℕ) (w : World) → All_shown set months place w.loans → All (λ (r : Sealed). All (IsListed w.loans r.month) r.lines) w.seals.reports → All (IsUnlisted set months) w.seals.reports
unlisted set months place w h listed = λ i d lt before j x lt'. not_listed set months place w.loans (get_or w.seals.reports i d).month (get_or (get_or w.seals.reports i d).lines j x) h before (listed i d lt j x lt')

part_held : (set : ℕ → Bool) (h : List Accepted) → IsHistory h → All (λ (l : Held). set l.id ≡ true → held_for (shown set (months_for set h) (place_in set h) (world h)) (loan_at (place_in set h) l) ≡ held_for (world h) l) (world h).loans
part_held set h is = λ i d lt member.
    held_is set (months_for set h) (place_in set h) (world h) (get_or (world h).loans i d) (place_counts set h) (since_upward (Rattle.servicing_transfer.specs.Parts.least_month set h)) (final_shown set h is i d lt) (((is_world h is).held i d lt).limited.account) member
    (unlisted set (months_for set h) (place_in set h) (world h) (final_shown set h is) (is_world h is).reports.listed)

part_cash : (set : ℕ → Bool) (h : List Accepted) → IsHistory h → All (λ (l : Held). set l.id ≡ true → borrower_cash (loan_at (place_in set h) l) ≡ borrower_cash l) (world h).loans
part_cash set h is = λ i d lt member. cash_shown (place_in set h) (get_or (world h).loans i d) (place_counts set h) ((final_shown set h is i d lt).counted member)

other_of : (set : ℕ → Bool) (Q : Held → Type 0) (ls : List Held) → All (λ (l : Held). not (set l.id) ≡ true → Q l) ls → All (λ (l : Held). set l.id ≡ false → Q l) ls
other_of set Q ls h = λ i d lt e. h i d lt (ap not e)

custody_t : (w : World) → (custody_of w).t ≡ total_by borrower_cash w.loans
unfolding custody_of
custody_t w = refl

custody_p : (w : World) → (custody_of w).p ≡ total_by (held_for w) w.loans
unfolding custody_of
custody_p w = refl

pub part_t : (set : ℕ → Bool) (h : List Accepted) → IsHistory h → (custody_of (world h)).t ≡ (custody_of (world (part_of set h))).t +ℤ (custody_of (world (part_of (λ i. not (set i)) h))).t
part_t set h is =
    let other : ℕ → Bool = λ i. not (set i) in
    let v = shown set (months_for set h) (place_in set h) (world h) in
    let v' = shown other (months_for other h) (place_in other h) (world h) in
    custody_t (world h)
    ∙ split_sum set (place_in set h) (place_in other h) borrower_cash borrower_cash borrower_cash (world h).loans (part_cash set h is) (other_of set (λ l. borrower_cash (loan_at (place_in other h) l) ≡ borrower_cash l) (world h).loans (part_cash other h is))
    ∙ ap (λ z. z +ℤ total_by borrower_cash v'.loans) (sym (custody_t v))
    ∙ ap (λ z. (custody_of v).t +ℤ z) (sym (custody_t v'))
    ∙ ap (λ x. (custody_of x).t +ℤ (custody_of v').t) (sym (part_world set h is))
    ∙ ap (λ x. (custody_of (world (part_of set h))).t +ℤ (custody_of x).t) (sym (part_world other h is))

pub part_p : (set : ℕ → Bool) (h : List Accepted) → IsHistory h → (custody_of (world h)).p ≡ (custody_of (world (part_of set h))).p +ℤ (custody_of (world (part_of (λ i. not (set i)) h))).p
part_p set h is =
    let other : ℕ → Bool = λ i. not (set i) in
    let v = shown set (months_for set h) (place_in set h) (world h) in
    let v' = shown other (months_for other h) (place_in other h) (world h) in
    custody_p (world h)
    ∙ split_sum set (place_in set h) (place_in other h) (held_for (world h)) (held_for v) (held_for v') (world h).loans (part_held set h is) (other_of set (λ l. held_for v' (loan_at (place_in other h) l) ≡ held_for (world h) l) (world h).loans (part_held other h is))
    ∙ ap (λ z. z +ℤ total_by (held_for v') v'.loans) (sym (custody_p v))
    ∙ ap (λ z. (custody_of v).p +ℤ z) (sym (custody_p v'))
    ∙ ap (λ x. (custody_of x).p +ℤ (custody_of v').p) (sym (part_world set h is))
    ∙ ap (λ x. (custody_of (world (part_of set h))).p +ℤ (custody_of x).p) (sym (part_world other h is))

-- a history in two parts
pub split_holds : (low high : ℕ) (h inside outside : List Accepted) → inside ≡ part_of (in_range low high) h → outside ≡ part_of (out_of_range low high) h → IsHistory h → Splits low high h inside outside
split_holds low high h inside outside ei eo is = record {
  inside_is = ei;
  outside_is = eo;
  inside_kept = subst (IsKeptPart (in_range low high) h) (sym ei) (part_kept (in_range low high) h is);
  outside_kept = subst (IsKeptPart (out_of_range low high) h) (sym eo) (part_kept (out_of_range low high) h is);
  cash = record {
    t = part_t (in_range low high) h is ∙ ap (λ x. (custody_of (world x)).t +ℤ (custody_of (world (part_of (out_of_range low high) h))).t) (sym ei) ∙ ap (λ x. (custody_of (world inside)).t +ℤ (custody_of (world x)).t) (sym eo);
    p = part_p (in_range low high) h is ∙ ap (λ x. (custody_of (world x)).p +ℤ (custody_of (world (part_of (out_of_range low high) h))).p) (sym ei) ∙ ap (λ x. (custody_of (world inside)).p +ℤ (custody_of (world x)).p) (sym eo);
  };
}
