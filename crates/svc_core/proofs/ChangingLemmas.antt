-- A loan that a command changes from a month on: what is recorded of it, the world after it, and its cost.
use Rattle.std.proofs.Common.{◌≡◌, ℕ, ◌+◌, ◌-◌, ◌*◌, ◌≤◌, ◌<◌, true, false, cond, List, [], ◌∷◌, ◌++◌, map, length, arith, refl, sym, ap, subst, ◌∙◌, length-append}
use Rattle.std.specs.Prelude.{Option, Some, IfSome}
use Rattle.std.specs.List.{All, range_with_len}
use Rattle.std.specs.Option.{option_map_or}
use Rattle.std.proofs.lemmas.List.FromFn.{length-map-range_with_len}
use Rattle.svc_spec.specs.Accounts.{Account}
use Rattle.remit_types.specs.declared.dues.MonthDue.{MonthDue}
use Rattle.period_adjust.specs.Sealed.{Sealed, Reporting, State, reporting}
use Rattle.period_adjust.specs.Changes.{is_unchanged, adjustment, change_of, adjustments_of}
use Rattle.period_adjust.specs.Totals.{Change}
use Rattle.period_adjust.specs.Totals as totals
use Rattle.period_adjust.specs.Conditions.{IsClosed, MayChange, first_month, last_month, count_held}
use Rattle.period_adjust.specs.Kept.{AreConsecutive, month_after}
use Rattle.period_adjust.proofs.KeptLemmas.{closed_to_end, month_after-last}
use Rattle.svc_world.specs.Held.{Held, find_loan, boarded_month, changed}
use Rattle.svc_world.specs.LoanDues.{due_of}
use Rattle.svc_world.specs.Reports.{months_of, changes_of}
use Rattle.svc_world.specs.World.{World}
use Rattle.svc_world.specs.Changing.{world_with}
use Rattle.svc_world.proofs.CarryLemmas.{due_small}
use Rattle.svc_world.proofs.AddUpLemmas.{may_record}
use Rattle.svc_world.proofs.LoanListLemmas.{find_changed}
use Rattle.svc_world.proofs.ChangedWorlds.{IsChange, closed_months, changes_are, first_by}
use Rattle.svc_world.proofs.NamedLoans.{IsNamed, named_loan}
use Rattle.svc_loan.specs.Kept.{KeptLoan}
use Rattle.svc_loan.specs.Loans.{KeptLoans, OfLoan, find_kept, held_in, closed_in, remitted_in}
use Rattle.svc_loan.specs.Closed.{months_cost, closed_cost}
use Rattle.svc_loan.proofs.KeptLemmas.{of_found, found_of}
use Rattle.svc_custody.specs.Cash.{IsKeptIn}
use Rattle.svc_core.specs.State.{world_of, IsState}
use Rattle.svc_core.specs.Costs.{changing_cost, entering_cost}
use Rattle.svc_core.specs.Changing.{dues_since}
use Rattle.svc_core.proofs.KeptInLemmas.{kept_on, changed_stay, kept_all, held_found, kept_of, dues_to_end}

-- ---- a change of a loan from a month on, and the loans after it

pub record IsChanging (n today : ℕ) (loans : KeptLoans) (seals : State) (id m : ℕ) (f : Held → Held) : Type 0 where
  pub state : IsState n today loans seals
  pub few : n < 1_000_000
  pub kept : KeptLoan
  pub found : find_kept id loans.loans ≡ Some kept
  pub change : IsChange (n + 1) today m f kept.held
  pub room : count_held seals.reporting + closed_months seals.reporting.reports m ≤ 4_000_000

pub record AreChanged (id : ℕ) (f : Held → Held) (loans later : KeptLoans) : Type 0 where
  pub held : held_in later.loans ≡ changed id f (held_in loans.loans)
  pub closed : closed_in later.loans ≡ closed_in loans.loans
  pub remitted : remitted_in later.loans ≡ remitted_in loans.loans

pub all_kept : {n today : ℕ} {loans : KeptLoans} {seals : State} {id m : ℕ} {f : Held → Held} (later : KeptLoans) (v : World) → IsChanging n today loans seals id m f → AreChanged id f loans later → v.seals.reports ≡ seals.reporting.reports → v.remitted ≡ seals.remitted → All (IsKeptIn v) later.loans
all_kept {today = today} {loans = loans} {seals = seals} {id = id} {f = f} later v h c reports remitted =
    kept_on (world_of today loans seals) v loans.loans later.loans (changed_stay id f loans.loans later.loans h.change.number h.change.boarded c.held c.closed c.remitted) reports remitted h.state.kept

-- the loan before the change
before_named : {n today : ℕ} {loans : KeptLoans} {seals : State} {id m : ℕ} {f : Held → Held} (h : IsChanging n today loans seals id m f) → IsNamed n (world_of today loans seals) id h.kept.held
before_named {n = n} {today = today} {loans = loans} {seals = seals} {id = id} h = named_loan n (world_of today loans seals) id h.kept.held h.state.world (held_found id loans.loans h.kept h.found)

before_kept : {n today : ℕ} {loans : KeptLoans} {seals : State} {id m : ℕ} {f : Held → Held} (h : IsChanging n today loans seals id m f) → IsKeptIn (world_of today loans seals) h.kept
before_kept {today = today} {loans = loans} {seals = seals} {id = id} h = kept_all (IsKeptIn (world_of today loans seals)) id loans.loans h.kept h.found h.state.kept

-- the loan after it
pub record IsAfter (today id m : ℕ) (l : Held) (later : KeptLoans) (seals : State) : Type 0 where
  pub kept : KeptLoan
  pub found : find_kept id later.loans ≡ Some kept
  pub held : kept.held ≡ l
  pub since : boarded_month kept.held ≤ m
  pub is : IsKeptIn (world_of today later seals) kept

pub loan_after : {n today : ℕ} {loans : KeptLoans} {seals : State} {id m : ℕ} {f : Held → Held} (later : KeptLoans) (h : IsChanging n today loans seals id m f) → AreChanged id f loans later → IsAfter today id m (f h.kept.held) later seals
loan_after {today = today} {loans = loans} {seals = seals} {id = id} {f = f} later h c =
    let k = h.kept in
    let there = find_changed id f (held_in loans.loans) k.held (held_found id loans.loans k h.found) h.change.number in
    let is = kept_of id later.loans (f k.held) (ap (find_loan id) c.held ∙ there) in
    let same : boarded_month is.kept.held ≡ boarded_month k.held = ap boarded_month is.held ∙ h.change.boarded k.held in
    let since = h.change.since in
    record {
      kept = is.kept;
      found = is.found;
      held = is.held;
      since = omega (arith, same, since);
      is = kept_all (IsKeptIn (world_of today later seals)) id later.loans is.kept is.found (all_kept later (world_of today later seals) h c refl refl);
    }

-- ---- what is recorded

few_months : (rs : List Sealed) (m : ℕ) → AreConsecutive rs → IfSome (first_month rs) (λ first. first ≤ m) → closed_months rs m ≤ length rs
few_months [] m c first = omega arith
few_months (r ∷ rs) m c first = let end = month_after-last r rs c in omega (arith, end)

closed_since : (rs : List Sealed) (m p : ℕ) → AreConsecutive rs → IfSome (first_month rs) (λ first. first ≤ m) → m ≤ p → p < month_after (last_month rs) → IsClosed rs p
closed_since [] m p c first low high = absurd (omega arith)
closed_since (r ∷ rs) m p c first low high = closed_to_end (r ∷ rs) r.month p c refl (omega arith) high

change_few : (n id : ℕ) (b d : MonthDue) → length (change_of n id b d) ≤ 1
change_few n id b d = elim (is_unchanged b d) as (λ v. length (cond v [] (adjustment n id b d ∷ [])) ≤ 1) [ true ↦ omega arith | false ↦ omega arith ]

adjusts_few : (n id : ℕ) (bs ds : List MonthDue) → length (adjustments_of n id bs ds) ≤ length bs
adjusts_few n id [] ds = omega arith
adjusts_few n id (b ∷ bs) [] = omega arith
adjusts_few n id (b ∷ bs) (d ∷ ds) = omega (arith, change_few n id b d, adjusts_few n id bs ds, length-append (change_of n id b d) (adjustments_of n id bs ds))

-- the first closed month is not after the month of the change
first_since : {n today : ℕ} {loans : KeptLoans} {seals : State} {id m : ℕ} {f : Held → Held} → IsChanging n today loans seals id m f → IfSome (first_month seals.reporting.reports) (λ first. first ≤ m)
first_since {loans = loans} {seals = seals} {m = m} h = first_by (first_month seals.reporting.reports) m 0 (held_in loans.loans) h.kept.held h.state.world.reports.from_first (before_named h).found h.change.since

-- how many closed months a loan has from one on
pub dues_count : (m : ℕ) (k : KeptLoan) → length (dues_since m k) ≡ boarded_month k.held + k.closed - m
dues_count m k = length-map-range_with_len (due_of k.held) m (boarded_month k.held + k.closed - m)

-- the dues before the change are of so many months at most as are closed
dues_few : {n today : ℕ} {loans : KeptLoans} {seals : State} {id m : ℕ} {f : Held → Held} (h : IsChanging n today loans seals id m f) → length (dues_since m h.kept) ≤ length seals.reporting.reports
dues_few {seals = seals} {m = m} h =
    let k = h.kept in
    let closed = (before_kept h).closed in
    let since = h.change.since in
    let few = few_months seals.reporting.reports m h.state.world.reports.sealed.consecutive (first_since h) in
    let count = dues_count m k in
    omega (arith, closed, since, few, count)

abbrev dues : Held → ℕ → ℕ → List MonthDue
dues l m c = map (due_of l) (range_with_len m c)

may_dues : {n today : ℕ} {loans : KeptLoans} {seals : State} {id m : ℕ} {f : Held → Held} (h : IsChanging n today loans seals id m f) → MayChange seals.reporting (n + 1) id (dues h.kept.held m (closed_months seals.reporting.reports m)) (dues (f h.kept.held) m (closed_months seals.reporting.reports m))
may_dues {n = n} {today = today} {loans = loans} {seals = seals} {id = id} {m = m} {f = f} h =
    let k = h.kept in
    let r = h.state.world.reports in
    let named = before_named h in
    let from = first_since h in
    let c = closed_months seals.reporting.reports m in
    let below : (p : ℕ) → m ≤ p → p < m + c → p < month_after (last_month seals.reporting.reports) = λ p low high. omega arith in
    let small : (p : ℕ) → p < month_after (last_month seals.reporting.reports) → p < 25_692 = λ p lt. (let most = r.sealed.most in omega arith) in
    subst (λ i. MayChange seals.reporting (n + 1) i (dues k.held m c) (dues (f k.held) m c)) named.number
    (may_record seals.reporting (n + 1) (held_in loans.loans) k.held (f k.held) m c h.state.world.add_up named.found
    (λ p low high. closed_since seals.reporting.reports m p r.sealed.consecutive from low (below p low high))
    below
    (λ p low high. due_small k.held p (small p (below p low high)) named.held.limited)
    (λ p low high. due_small (f k.held) p (small p (below p low high)) h.change.held.limited)
    h.room)

dues_before : {n today : ℕ} {loans : KeptLoans} {seals : State} {id m : ℕ} {f : Held → Held} (h : IsChanging n today loans seals id m f) → dues_since m h.kept ≡ dues h.kept.held m (closed_months seals.reporting.reports m)
dues_before {today = today} {loans = loans} {seals = seals} {m = m} h = dues_to_end (world_of today loans seals) h.kept m (before_kept h) h.change.since

dues_later : {today id m : ℕ} {l : Held} {later : KeptLoans} {seals : State} (a : IsAfter today id m l later seals) → dues_since m a.kept ≡ dues l m (closed_months seals.reporting.reports m)
dues_later {today = today} {m = m} {later = later} {seals = seals} a = dues_to_end (world_of today later seals) a.kept m a.is a.since ∙ ap (λ x. dues x m (closed_months seals.reporting.reports m)) a.held

-- the dues that were copied
copied : {n today : ℕ} {loans : KeptLoans} {seals : State} {id m : ℕ} {f : Held → Held} (before : List MonthDue) (h : IsChanging n today loans seals id m f) → OfLoan id loans.loans (λ k. before ≡ dues_since m k) → before ≡ dues_since m h.kept
copied {loans = loans} {id = id} {m = m} before h is = of_found (λ (k : KeptLoan). before ≡ dues_since m k) id loans.loans h.kept is h.found

-- ---- what the calls ask of the loan

pub asks_since : {n today : ℕ} {loans : KeptLoans} {seals : State} {id m : ℕ} {f : Held → Held} → IsChanging n today loans seals id m f → OfLoan id loans.loans (λ k. boarded_month k.held ≤ m)
asks_since {loans = loans} {id = id} {m = m} h = found_of (λ (k : KeptLoan). boarded_month k.held ≤ m) id loans.loans h.kept h.change.since h.found

pub asks_room : {n today : ℕ} {loans : KeptLoans} {seals : State} {id m : ℕ} {f : Held → Held} (room : ℕ) → IsChanging n today loans seals id m f → 2 * length seals.reporting.reports ≤ room → OfLoan id loans.loans (λ k. length (dues_since m k) ≤ room)
asks_room {loans = loans} {id = id} {m = m} room h le = found_of (λ (k : KeptLoan). length (dues_since m k) ≤ room) id loans.loans h.kept (let few = dues_few h in omega (arith, few, le)) h.found

pub later_since : {n today : ℕ} {loans : KeptLoans} {seals : State} {id m : ℕ} {f : Held → Held} (later : KeptLoans) → IsChanging n today loans seals id m f → AreChanged id f loans later → OfLoan id later.loans (λ k. boarded_month k.held ≤ m)
later_since {id = id} {m = m} later h c = let a = loan_after later h c in found_of (λ (k : KeptLoan). boarded_month k.held ≤ m) id later.loans a.kept a.since a.found

pub later_fits : {n today : ℕ} {loans : KeptLoans} {seals : State} {id m : ℕ} {f : Held → Held} (later : KeptLoans) (before : List MonthDue) (room : ℕ) → IsChanging n today loans seals id m f → AreChanged id f loans later → OfLoan id loans.loans (λ k. before ≡ dues_since m k) → 2 * length seals.reporting.reports ≤ room → OfLoan id later.loans (λ k. length before + length (dues_since m k) ≤ room)
later_fits {seals = seals} {id = id} {m = m} {f = f} later before room h c is le =
    let a = loan_after later h c in
    let few = dues_few h in
    let same = ap length (copied before h is) in
    let count = closed_months seals.reporting.reports m in
    let most = few_months seals.reporting.reports m h.state.world.reports.sealed.consecutive (first_since h) in
    let new : length (dues_since m a.kept) ≡ count = ap length (dues_later a) ∙ length-map-range_with_len (due_of (f h.kept.held)) m count in
    found_of (λ (k : KeptLoan). length before + length (dues_since m k) ≤ room) id later.loans a.kept (omega (arith, few, same, most, new, le)) a.found

pub later_change : {n today : ℕ} {loans : KeptLoans} {seals : State} {id m : ℕ} {f : Held → Held} (later : KeptLoans) (before : List MonthDue) → IsChanging n today loans seals id m f → AreChanged id f loans later → OfLoan id loans.loans (λ k. before ≡ dues_since m k) → OfLoan id later.loans (λ k. MayChange seals.reporting (n + 1) id before (dues_since m k))
later_change {n = n} {seals = seals} {id = id} {m = m} {f = f} later before h c is =
    let a = loan_after later h c in
    let count = closed_months seals.reporting.reports m in
    let old : dues h.kept.held m count ≡ before = sym (copied before h is ∙ dues_before h) in
    let new : dues (f h.kept.held) m count ≡ dues_since m a.kept = sym (dues_later a) in
    found_of (λ (k : KeptLoan). MayChange seals.reporting (n + 1) id before (dues_since m k)) id later.loans a.kept
    (subst (λ bs. MayChange seals.reporting (n + 1) id bs (dues_since m a.kept)) old (subst (λ ds. MayChange seals.reporting (n + 1) id (dues h.kept.held m count) ds) new (may_dues h)))
    a.found

pub later_room : {n today : ℕ} {loans : KeptLoans} {seals : State} {id m : ℕ} {f : Held → Held} (later : KeptLoans) (before : List MonthDue) (room : ℕ) → IsChanging n today loans seals id m f → AreChanged id f loans later → OfLoan id loans.loans (λ k. before ≡ dues_since m k) → length seals.reporting.reports ≤ room → OfLoan id later.loans (λ k. length (adjustments_of (n + 1) id before (dues_since m k)) ≤ room)
later_room {n = n} {id = id} {m = m} later before room h c is le =
    let a = loan_after later h c in
    let few = dues_few h in
    let same = ap length (copied before h is) in
    let most = adjusts_few (n + 1) id before (dues_since m a.kept) in
    found_of (λ (k : KeptLoan). length (adjustments_of (n + 1) id before (dues_since m k)) ≤ room) id later.loans a.kept (omega (arith, few, same, most, le)) a.found

-- ---- the world after it

abbrev pub world : ℕ → List Held → Reporting → Option ℕ → World
world today loans s r = record { today = today; loans = loans; seals = s; remitted = r }

pub same_world : (today : ℕ) (loans loans' : List Held) (s s' : Reporting) (r r' : Option ℕ) → loans ≡ loans' → s ≡ s' → r ≡ r' → world today loans s r ≡ world today loans' s' r'
same_world today loans loans' s s' r r' p q t = rw (p, q, t) refl

-- the reports after the change is recorded
pub record IsRecorded (n id m : ℕ) (before : List MonthDue) (later : KeptLoans) (seals seals' : State) : Type 0 where
  pub done : OfLoan id later.loans (λ k. seals'.reporting ≡ totals.after seals.reporting (Change (n + 1) id before (dues_since m k)))
  pub remitted : seals'.remitted ≡ seals.remitted

recorded : {n today : ℕ} {loans : KeptLoans} {seals : State} {id m : ℕ} {f : Held → Held} {later : KeptLoans} {before : List MonthDue} {seals' : State} (h : IsChanging n today loans seals id m f) (a : IsAfter today id m (f h.kept.held) later seals) → IsRecorded n id m before later seals seals' → seals'.reporting ≡ totals.after seals.reporting (Change (n + 1) id before (dues_since m a.kept))
recorded {n = n} {seals = seals} {id = id} {m = m} {later = later} {before = before} {seals' = seals'} h a r = of_found (λ (k : KeptLoan). seals'.reporting ≡ totals.after seals.reporting (Change (n + 1) id before (dues_since m k))) id later.loans a.kept r.done a.found

pub world_after : {n today : ℕ} {loans : KeptLoans} {seals : State} {id m : ℕ} {f : Held → Held} (later : KeptLoans) (before : List MonthDue) (seals' : State) → IsChanging n today loans seals id m f → AreChanged id f loans later → OfLoan id loans.loans (λ k. before ≡ dues_since m k) → IsRecorded n id m before later seals seals' → world_of today later seals' ≡ world_with (world_of today loans seals) id f (n + 1)
world_after {n = n} {today = today} {loans = loans} {seals = seals} {id = id} {m = m} {f = f} later before seals' h c is r =
    let s = seals.reporting in
    let rs = s.reports in
    let ls = held_in loans.loans in
    let k = h.kept in
    let a = loan_after later h c in
    let named = before_named h in
    let ch = h.change in
    let are = changes_are (n + 1) m rs ls f k.held h.state.world.reports.sealed.consecutive (first_since h) h.state.world.rising named.found ch.number ch.agree ch.since in
    let count = closed_months rs m in
    let changes : adjustments_of (n + 1) id before (dues_since m a.kept) ≡ changes_of (n + 1) (months_of rs) ls (changed id f ls) =
    ap (λ bs. adjustments_of (n + 1) id bs (dues_since m a.kept)) (copied before h is ∙ dues_before h)
    ∙ ap (λ ds. adjustments_of (n + 1) id (dues k.held m count) ds) (dues_later a)
    ∙ ap (λ i. adjustments_of (n + 1) i (dues k.held m count) (dues (f k.held) m count)) (sym named.number)
    ∙ sym are
    ∙ ap (λ i. changes_of (n + 1) (months_of rs) ls (changed i f ls)) named.number in
    same_world today (held_in later.loans) (changed id f ls) seals'.reporting (reporting rs (s.pending ++ changes_of (n + 1) (months_of rs) ls (changed id f ls))) seals'.remitted seals.remitted
    c.held
    (recorded h a r ∙ ap (λ xs. reporting rs (s.pending ++ xs)) changes)
    r.remitted

pub kept_after : {n today : ℕ} {loans : KeptLoans} {seals : State} {id m : ℕ} {f : Held → Held} (later : KeptLoans) (before : List MonthDue) (seals' : State) → IsChanging n today loans seals id m f → AreChanged id f loans later → IsRecorded n id m before later seals seals' → All (IsKeptIn (world_of today later seals')) later.loans
kept_after {today = today} later before seals' h c r =
    all_kept later (world_of today later seals') h c (ap (λ (x : Reporting). x.reports) (recorded h (loan_after later h c) r)) r.remitted

-- ---- what it costs

-- the loan that was changed, as it is kept in the world after it
pub kept_there : {today id m : ℕ} {l : Held} {later : KeptLoans} {seals : State} (cost : Account → ℕ → ℕ) (v : World) (a : IsAfter today id m l later seals) → v.seals.reports ≡ seals.reporting.reports → months_cost cost a.kept.held.account m (month_after (last_month v.seals.reports) - m) ≡ closed_cost cost a.kept.held.account a.kept.closed m
kept_there {m = m} {seals = seals} cost v a reports =
    let closed = a.is.closed in
    let from = a.since in
    let last : month_after (last_month v.seals.reports) ≡ month_after (last_month seals.reporting.reports) = ap (λ rs. month_after (last_month rs)) reports in
    let count : month_after (last_month v.seals.reports) - m ≡ boarded_month a.kept.held + a.kept.closed - m = omega (arith, closed, from, last) in
    ap (months_cost cost a.kept.held.account m) count

pub steps_after : {n today : ℕ} {loans : KeptLoans} {seals : State} {id m : ℕ} {f : Held → Held} (later : KeptLoans) (before : List MonthDue) (seals' : State) (cost month_cost : Account → ℕ → ℕ) (steps' steps : ℕ) → IsChanging n today loans seals id m f → AreChanged id f loans later → IsRecorded n id m before later seals seals' → OfLoan id later.loans (λ k. steps' ≤ steps + cost k.held.account m + closed_cost month_cost k.held.account k.closed m) → steps' ≤ steps + entering_cost cost month_cost (world_of today later seals') id m
steps_after {today = today} {id = id} {m = m} later before seals' cost month_cost steps' steps h c r bound =
    let a = loan_after later h c in
    let v = world_of today later seals' in
    let least = of_found (λ (k : KeptLoan). steps' ≤ steps + cost k.held.account m + closed_cost month_cost k.held.account k.closed m) id later.loans a.kept bound a.found in
    let same = kept_there month_cost v a (ap (λ (x : Reporting). x.reports) (recorded h a r)) in
    let there : entering_cost cost month_cost v id m ≡ changing_cost cost month_cost v m a.kept.held = ap (λ o. option_map_or (changing_cost cost month_cost v m) o 0) (held_found id later.loans a.kept a.found) in
    omega (arith, least, same, there)
