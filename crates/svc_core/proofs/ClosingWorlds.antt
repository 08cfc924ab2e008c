-- What closing a month leaves of what is kept.
use Rattle.std.proofs.Common.{◌≡◌, ℕ, suc, ◌+◌, ◌≤◌, ◌<◌, max, true, false, cond, List, [], ◌∷◌, ◌++◌, map, length, get_or, arith, refl, sym, ap, subst, ◌∙◌}
use Rattle.std.specs.Prelude.{nat_le, Option, Some, None, IfSome, if◌then◌else◌}
use Rattle.std.specs.List.{All, filter}
use Rattle.std.specs.Option.{option_map_or}
use Rattle.std.proofs.lemmas.Bool.Decides.{nat_tests}
use Rattle.std.proofs.lemmas.List.Elements.{All-head, All-tail, All-cons, All-nil}
use Rattle.svc_base.specs.Calendar.{last_day}
use Rattle.svc_base.specs.Text.{IsReadMonth}
use Rattle.svc_base.specs.Sums.{total_by}
use Rattle.svc_types.specs.declared.requests.Command.TheVariants as command
use Rattle.svc_types.specs.declared.replies.Extra.TheVariants.{Plain}
use Rattle.period_adjust.specs.declared.report_line.ReportLine.{ReportLine}
use Rattle.period_adjust.specs.Sealed.{Sealed, Reporting, State}
use Rattle.period_adjust.specs.Sums.{report_of}
use Rattle.period_adjust.specs.Totals.{Close}
use Rattle.period_adjust.specs.Totals as seals
use Rattle.period_adjust.specs.Conditions.{IsClosed, MayClose, last_month}
use Rattle.period_adjust.specs.Kept.{AreSealed, month_after}
use Rattle.period_adjust.proofs.KeptLemmas.{last_month-push}
use Rattle.period_adjust.proofs.SealedLemmas.{closed_to_last}
use Rattle.svc_world.specs.Held.{Held, boarded_month}
use Rattle.svc_world.specs.Reports.{lines_of}
use Rattle.svc_world.specs.World.{World, loans_after, seals_after, after}
use Rattle.svc_world.specs.Custody.{sent_for, remitted_reports, remitted_for}
use Rattle.svc_world.specs.Refusals.{refusal_of}
use Rattle.svc_world.specs.Judging.{report_for, closed_extra, extra_of}
use Rattle.svc_world.specs.Worlds.{IsWorld}
use Rattle.svc_world.proofs.QuietWorlds.{after_month}
use Rattle.svc_world.proofs.ClosedWorlds.{closing, closing_may, close_keeps}
use Rattle.svc_loan.specs.Kept.{KeptLoan, HasMonth}
use Rattle.svc_loan.specs.Loans.{KeptLoans, MayCloseMonth, closed_by, held_in, closed_in, remitted_in}
use Rattle.svc_custody.specs.Cash.{IsKeptIn}
use Rattle.svc_core.specs.Reported.{IsClosedFor, AreSent}
use Rattle.svc_core.specs.State.{world_of, IsState}
use Rattle.svc_core.proofs.EveryoneLemmas.{of_held, kept_by}
use Rattle.svc_core.proofs.ReportedLemmas.{lines_most, held_length}
use Rattle.svc_core.proofs.SentWorlds.{found_sent}

-- ---- each loan's month may be closed

-- the month after a loan's last closed one is the one that is closed
next_closed : (o : Option ℕ) (p boarded closed : ℕ) → IfSome o (λ last. p ≡ last + 1) → (o ≡ None → p ≤ boarded) → boarded + closed ≡ max boarded (month_after o) → boarded ≤ p → boarded + closed ≡ p
next_closed None p boarded closed next first is le = (let from = first refl in omega (arith, from, is, le))
next_closed (Some last) p boarded closed next first is le = omega (arith, next, is, le)

pub close_may : (n p today : ℕ) (loans : KeptLoans) (seals : State) → IsState n today loans seals → refusal_of n (world_of today loans seals) (command.Close p) ≡ None → All (HasMonth today) loans.loans → All (MayCloseMonth p) loans.loans
close_may n p today loans seals h fresh ready =
    let w = world_of today loans seals in
    let c = (closing n p w fresh).0 in
    λ i d lt boarded.
    let k = get_or loans.loans i d in
    let first : last_month seals.reporting.reports ≡ None → p ≤ boarded_month k.held = λ none. of_held (λ (l : Held). p ≤ boarded_month l) loans.loans (c.first none) i d lt in
    let day = of_held (λ (l : Held). l.account.today ≡ today) loans.loans (λ j x in'. (h.world.held j x in').today) i d lt in
    let later = after_month p today h.world.today.exists c.ended in (
      next_closed (last_month seals.reporting.reports) p (boarded_month k.held) k.closed c.next first (h.kept i d lt).closed boarded,
      omega (arith, day, later),
      (ready i d lt).closing,
    )

-- ---- and then it is

-- what holds of loans by what is held of each and how many months of each are closed
by_closed : (P : Held → ℕ → Type 0) (fc : KeptLoan → ℕ) (ks js : List KeptLoan) → held_in js ≡ held_in ks → closed_in js ≡ map fc ks → All (λ (k : KeptLoan). P k.held (fc k)) ks → All (λ (j : KeptLoan). P j.held j.closed) js
by_closed P fc [] [] h c all = All-nil (λ (j : KeptLoan). P j.held j.closed)
by_closed P fc [] (j ∷ js) h c all = absurd (cc)
by_closed P fc (k ∷ ks) [] h c all = absurd (cc)
by_closed P fc (k ∷ ks) (j ∷ js) h c all =
    let held : j.held ≡ k.held = cc in
    let closed : j.closed ≡ fc k = cc in
    let here = All-head (λ (x : KeptLoan). P x.held (fc x)) k ks all in
    let Q : Held → Type 0 = λ l. P l j.closed in
    All-cons (λ (x : KeptLoan). P x.held x.closed) j js (subst Q (sym held) (subst (P k.held) (sym closed) here))
    (by_closed P fc ks js (cc) (cc) (All-tail (λ (x : KeptLoan). P x.held (fc x)) k ks all))

-- the months of a loan after one of them was closed
by_yes : (p : ℕ) (k : KeptLoan) → boarded_month k.held ≤ p → closed_by p k ≡ k.closed + 1
by_yes p k le = (let yes : nat_le (boarded_month k.held) p ≡ true = grind (arith, nat_tests) in ap (λ v. if v then k.closed + 1 else k.closed) yes)

by_no : (p : ℕ) (k : KeptLoan) → p < boarded_month k.held → closed_by p k ≡ k.closed
by_no p k lt = (let no : nat_le (boarded_month k.held) p ≡ false = grind (arith, nat_tests) in ap (λ v. if v then k.closed + 1 else k.closed) no)

pub close_done : (p : ℕ) (ks js : List KeptLoan) → All (MayCloseMonth p) ks → held_in js ≡ held_in ks → closed_in js ≡ map (closed_by p) ks → All (IsClosedFor p) js
close_done p ks js may held closed =
    by_closed (λ (l : Held) n. boarded_month l ≤ p → p < boarded_month l + n) (closed_by p) ks js held closed (λ i d lt le.
    let k = get_or ks i d in
    let m = may i d lt le in
    let at = m.0 in
    let more = by_yes p k le in
    omega (arith, at, more))

pub same_count : (ks js : List KeptLoan) → held_in js ≡ held_in ks → length js ≡ length ks
same_count ks js held = sym (held_length js) ∙ ap length held ∙ held_length ks

-- ---- the report that is sealed

pub close_seals : (n p today : ℕ) (loans later : KeptLoans) (seals : State) (ls : List ReportLine) → IsState n today loans seals → IsReadMonth p → refusal_of n (world_of today loans seals) (command.Close p) ≡ None → held_in later.loans ≡ held_in loans.loans → ls ≡ lines_of seals.reporting.pending p (held_in later.loans) → MayClose seals.reporting p ls
close_seals n p today loans later seals ls h read fresh held is =
    let w = world_of today loans seals in
    let same : ls ≡ lines_of seals.reporting.pending p w.loans = is ∙ ap (lines_of seals.reporting.pending p) held in
    subst (MayClose seals.reporting p) (sym same) (closing_may n p w h.world read (closing n p w fresh).0)

pub close_ended : (n p today : ℕ) (loans : KeptLoans) (seals : State) → refusal_of n (world_of today loans seals) (command.Close p) ≡ None → last_day p < today
close_ended n p today loans seals fresh = (closing n p (world_of today loans seals) fresh).0.ended

pub close_room : (p : ℕ) (loans later : KeptLoans) (seals : State) (ls : List ReportLine) → held_in later.loans ≡ held_in loans.loans → ls ≡ lines_of seals.reporting.pending p (held_in later.loans) → length ls ≤ length loans.loans
close_room p loans later seals ls held is =
    let lines = ap length is in
    let most = lines_most seals.reporting.pending p (held_in later.loans) in
    let count = held_length later.loans in
    let same = same_count loans.loans later.loans held in
    omega (arith, lines, most, count, same)

closed_end : (rs : List Sealed) (r : Sealed) → IsClosed (rs ++ r ∷ []) r.month
closed_end [] r = (0, r, omega arith, refl, refl)
closed_end (x ∷ rs) r = (let c = closed_end rs r in let lt : c.0 < length (rs ++ r ∷ []) = c.2 in (suc c.0, c.1, omega arith, c.3, c.4))

pub close_closed : (p : ℕ) (old new : Reporting) (ls : List ReportLine) → new ≡ seals.after old (Close p ls) → IsClosed new.reports p
close_closed p old new ls is = subst (λ (s : Reporting). IsClosed s.reports p) (sym is) (closed_end old.reports (report_of p ls old.pending))

-- ---- the world after it

pub close_world : (n p today : ℕ) (loans later : KeptLoans) (old new : State) (ls : List ReportLine) → held_in later.loans ≡ held_in loans.loans → ls ≡ lines_of old.reporting.pending p (held_in later.loans) → new.reporting ≡ seals.after old.reporting (Close p ls) → new.remitted ≡ old.remitted → world_of today later new ≡ after (n + 1) (world_of today loans old) (command.Close p)
unfolding after loans_after seals_after
close_world n p today loans later old new ls held is done remitted =
    let w = world_of today loans old in
    let with : List Held → Reporting → Option ℕ → World = λ xs s m. record { today = today; loans = xs; seals = s; remitted = m } in
    let same : ls ≡ lines_of old.reporting.pending p w.loans = is ∙ ap (lines_of old.reporting.pending p) held in
    ap (λ xs. with xs new.reporting new.remitted) held
    ∙ ap (λ s. with w.loans s new.remitted) (done ∙ ap (λ xs. seals.after old.reporting (Close p xs)) same)
    ∙ ap (with w.loans (seals.after old.reporting (Close p (lines_of old.reporting.pending p w.loans)))) remitted

pub close_sound : (n p today : ℕ) (loans later : KeptLoans) (old new : State) → IsState n today loans old → IsReadMonth p → refusal_of n (world_of today loans old) (command.Close p) ≡ None → world_of today later new ≡ after (n + 1) (world_of today loans old) (command.Close p) → IsWorld (n + 1) (world_of today later new)
close_sound n p today loans later old new h read fresh is = subst (IsWorld (n + 1)) (sym is) (close_keeps n p (world_of today loans old) h.world read fresh)

pub close_sent : (n p today : ℕ) (loans later : KeptLoans) (old new : State) (r : Sealed) → IsState n today loans old → IsReadMonth p → refusal_of n (world_of today loans old) (command.Close p) ≡ None → world_of today later new ≡ after (n + 1) (world_of today loans old) (command.Close p) → report_for p new.reporting.reports ≡ Some r → AreSent r.lines
close_sent n p today loans later old new r h read fresh is found = found_sent (n + 1) p (world_of today later new) r (close_sound n p today loans later old new h read fresh is) found

pub close_extra : (n p : ℕ) (w later : World) (r : Sealed) → later ≡ after (n + 1) w (command.Close p) → report_for p later.seals.reports ≡ Some r → closed_extra r ≡ extra_of w (after (n + 1) w (command.Close p)) (command.Close p)
close_extra n p w later r is found =
    sym (ap (λ (o : Option Sealed). option_map_or closed_extra o Plain) (sym (ap (λ (x : World). report_for p x.seals.reports) is) ∙ found))

-- ---- what is kept of each loan

-- a month that was remitted is not the one that is closed
filter_early : (m : ℕ) (rs : List Sealed) (r : Sealed) → m < r.month → filter (λ (x : Sealed). nat_le x.month m) (rs ++ r ∷ []) ≡ filter (λ (x : Sealed). nat_le x.month m) rs
filter_early m [] r lt = (let no : nat_le r.month m ≡ false = grind (arith, nat_tests) in ap (λ v. cond v (r ∷ []) []) no)
filter_early m (x ∷ xs) r lt =
    let f : List Sealed → List Sealed = λ ys. filter (λ (y : Sealed). nat_le y.month m) ys in
    let rest = filter_early m xs r lt in
    elim (nat_le x.month m) as (λ v. cond v (x ∷ f (xs ++ r ∷ [])) (f (xs ++ r ∷ [])) ≡ cond v (x ∷ f xs) (f xs)) [
      | true ↦ ap (λ ys. x ∷ ys) rest
      | false ↦ rest
    ]

remitted_same : (o : Option ℕ) (s : Reporting) (r : Sealed) → AreSealed s → IfSome o (IsClosed s.reports) → IfSome (last_month s.reports) (λ last. r.month ≡ last + 1) → remitted_reports o (s.reports ++ r ∷ []) ≡ remitted_reports o s.reports
remitted_same None s r sealed closed next = refl
remitted_same (Some m) s r sealed closed next = filter_early m s.reports r (at (last_month s.reports) refl next)
  where
    at : (l : Option ℕ) → last_month s.reports ≡ l → IfSome l (λ last. r.month ≡ last + 1) → m < r.month
    at None none e = absurd (none_closed s.reports none closed)
      where
        none_closed : (rs : List Sealed) → last_month rs ≡ None → IsClosed rs m → ⊥
        none_closed [] e c = (let lt : c.0 < 0 = c.2 in omega arith)
        none_closed (x ∷ []) e c = cc
        none_closed (x ∷ (y ∷ ys)) e c = last_there y ys e
          where
            last_there : (y : Sealed) (ys : List Sealed) → last_month (y ∷ ys) ≡ None → ⊥
            last_there y [] e = cc
            last_there y (z ∷ zs) e = last_there z zs e
    at (Some last) some e = (let le = closed_to_last s last m sealed some closed in omega (arith, le, e))

months_closed : (o : Option ℕ) (p : ℕ) (k : KeptLoan) → IfSome o (λ last. p ≡ last + 1) → (o ≡ None → p ≤ boarded_month k.held) → boarded_month k.held + k.closed ≡ max (boarded_month k.held) (month_after o) → boarded_month k.held + closed_by p k ≡ max (boarded_month k.held) (p + 1)
months_closed o p k next first is =
    elim (nat_le (boarded_month k.held) p) as (λ v. nat_le (boarded_month k.held) p ≡ v → boarded_month k.held + closed_by p k ≡ max (boarded_month k.held) (p + 1)) [
      | true ↦ λ e.
          let le : boarded_month k.held ≤ p = grind (arith, nat_tests) in
          let at = next_closed o p (boarded_month k.held) k.closed next first is le in
          let more = by_yes p k le in
          omega (arith, at, more, le)
      | false ↦ λ e.
          let lt : p < boarded_month k.held = grind (arith, nat_tests) in
          let same = by_no p k lt in
          let early = before o next in
          omega (arith, same, is, early, lt)
    ] refl
  where
    before : (o : Option ℕ) → IfSome o (λ last. p ≡ last + 1) → month_after o ≤ p
    before None e = omega arith
    before (Some last) e = omega (arith, e)

pub close_kept : (n p today : ℕ) (loans later : KeptLoans) (old new : State) (ls : List ReportLine) → IsState n today loans old → refusal_of n (world_of today loans old) (command.Close p) ≡ None → held_in later.loans ≡ held_in loans.loans → closed_in later.loans ≡ map (closed_by p) loans.loans → remitted_in later.loans ≡ remitted_in loans.loans → new.reporting ≡ seals.after old.reporting (Close p ls) → new.remitted ≡ old.remitted → All (IsKeptIn (world_of today later new)) later.loans
unfolding remitted_for
close_kept n p today loans later old new ls h fresh held closed remitted done same =
    let w = world_of today loans old in
    let c = (closing n p w fresh).0 in
    let r = report_of p ls old.reporting.pending in
    let reports = old.reporting.reports in
    let whole : new.reporting.reports ≡ reports ++ r ∷ [] = ap (λ (s : Reporting). s.reports) done in
    let sent = remitted_same old.remitted old.reporting r h.world.reports.sealed h.world.reports.remitted c.next in
    let all : remitted_reports new.remitted new.reporting.reports ≡ remitted_reports old.remitted reports = ap (λ o. remitted_reports o new.reporting.reports) same ∙ ap (remitted_reports old.remitted) whole ∙ sent in
    let last : month_after (last_month new.reporting.reports) ≡ p + 1 = ap (λ rs. month_after (last_month rs)) whole ∙ ap month_after (last_month-push reports r) in
    kept_by (world_of today later new) (λ (k : KeptLoan). k.held) (closed_by p) (λ (k : KeptLoan). k.remitted) loans.loans later.loans held closed remitted (λ i d lt.
    let k = get_or loans.loans i d in
    let before = h.kept i d lt in
    let first : last_month reports ≡ None → p ≤ boarded_month k.held = λ none. of_held (λ (l : Held). p ≤ boarded_month l) loans.loans (c.first none) i d lt in
    record {
      sent = before.remitted ∙ sym (ap (total_by (sent_for k.held.id)) all);
      months = months_closed (last_month reports) p k c.next first before.closed ∙ sym (ap (max (boarded_month k.held)) last);
    })
