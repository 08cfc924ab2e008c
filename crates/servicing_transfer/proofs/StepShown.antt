-- One command of a history, seen from a part: a command of the part does there what it does here, and any
-- other shows nothing.
use Rattle.std.proofs.Common.{◌≡◌, ℕ, ◌<◌, Bool, true, false, List, [], ◌∷◌, ◌++◌, map, arith, refl, sym, ap, subst, ◌∙◌, append-nil}
use Rattle.std.specs.Prelude.{◌==◌, nat_lt, nat_le, if◌then◌else◌, Option, Some, None, ⊤}
use Rattle.std.specs.List.{All, AllPairs, filter, find}
use Rattle.std.proofs.lemmas.List.Elements.{All-cons, All-head, All-tail, All-nil, All-append}
use Rattle.std.proofs.lemmas.Bool.Decides.{nat_tests}
use Rattle.svc_base.specs.Calendar.{month_of}
use Rattle.svc_types.specs.declared.account.Act.{Act}
use Rattle.svc_types.specs.declared.account.Act.TheVariants as act
use Rattle.svc_types.specs.declared.requests.Command.{Command}
use Rattle.svc_types.specs.declared.requests.Command.TheVariants as command
use Rattle.period_adjust.specs.declared.adjustment.Adjustment.{Adjustment}
use Rattle.period_adjust.specs.declared.report_line.ReportLine.{ReportLine}
use Rattle.period_adjust.specs.Sealed.{reporting}
use Rattle.period_adjust.specs.Sums.{report_of}
use Rattle.svc_world.specs.Held.{Held, boarded_month, boarded, with_entry, with_reversal, on_day, with_bill, without_bill, with_type, changed}
use Rattle.svc_world.specs.LoanDues.{type_change}
use Rattle.svc_world.specs.Reports.{lines_of, months_of, changes_of}
use Rattle.svc_world.specs.World.{World, entry, with_analysis, loans_after, seals_after, after}
use Rattle.svc_world.proofs.LoanListLemmas.{rises, KeepsNumber, all_found, with_loan_all}
use Rattle.svc_world.proofs.ChangesLemmas.{changes_kept}
use Rattle.servicing_transfer.specs.Parts.{is_for, renumbered}
use Rattle.servicing_transfer.proofs.Renumbering.{Counts, IsCounted, IsCountedEntry, IsCountedPair}
use Rattle.servicing_transfer.proofs.ShownLoans.{loans_shown, IsShown, entry_shown, reversal_shown, analysis_shown, shown_mapped, shown_changed, shown_unchanged, shown_boarded, shown_not_boarded, rising_shown}
use Rattle.servicing_transfer.proofs.ShownChanges.{adjustments_shown, reports_shown, report_shown, shown_append, changes_shown, months_shown, reports_append, lines_shown}

-- the month remitted last, where it is one of the part's
abbrev pub remitted_shown : (ℕ → Bool) → Option ℕ → Option ℕ
remitted_shown months None = None
remitted_shown months (Some p) = if months p then Some p else None

-- what a world shows of a set of loans: the world of the part
abbrev pub shown : (ℕ → Bool) → (ℕ → Bool) → (ℕ → ℕ) → World → World
shown set months place w = record {
  today = w.today;
  loans = loans_shown set place w.loans;
  seals = reporting (reports_shown set months place w.seals.reports) (adjustments_shown set place w.seals.pending);
  remitted = remitted_shown months w.remitted;
}

abbrev pub All_shown : (ℕ → Bool) → (ℕ → Bool) → (ℕ → ℕ) → List Held → Type 0
All_shown set months place ls = All (IsShown set months place) ls

-- ---- the loans of the next world are shown

-- a loan of the set is boarded in a month from which on all are the part's
abbrev pub IsSince : (ℕ → Bool) → (ℕ → Bool) → Command → Type 0
IsSince set months (command.Board id t) = set id ≡ true → (p : ℕ) → months p ≡ false → p < month_of t.boarded
IsSince set months c = ⊤

-- the number that a reversal names is counted where its loan is of the set
abbrev pub IsNamed : (ℕ → Bool) → (ℕ → ℕ) → Command → Type 0
IsNamed set place (command.Reverse id number) = set id ≡ true → IsCounted place number
IsNamed set place c = ⊤

pub record IsFitting (set months : ℕ → Bool) (place : ℕ → ℕ) (n : ℕ) (c : Command) : Type 0 where
  pub counted : is_for set months c ≡ true → IsCounted place n
  pub since : IsSince set months c
  pub named : IsNamed set place c

changed_shown : (set months : ℕ → Bool) (place : ℕ → ℕ) (id : ℕ) (f : Held → Held) (ls : List Held) → All_shown set months place ls → ((k : Held) → k.id ≡ id → IsShown set months place k → IsShown set months place (f k)) → All_shown set months place (changed id f ls)
changed_shown set months place id f [] h new = h
changed_shown set months place id f (l ∷ ls) h new =
    let here = All-head (IsShown set months place) l ls h in
    let rest = All-tail (IsShown set months place) l ls h in
    elim (l.id == id) as (λ v. (l.id == id) ≡ v → All_shown set months place (if v then f l ∷ ls else l ∷ changed id f ls)) [
      | true ↦ λ e. let same : l.id ≡ id = grind (arith, nat_tests) in All-cons (IsShown set months place) (f l) ls (new l same here) rest
      | false ↦ λ e. All-cons (IsShown set months place) l (changed id f ls) here (changed_shown set months place id f ls rest new)
    ] refl

entry_keeps : (set months : ℕ → Bool) (place : ℕ → ℕ) (n d : ℕ) (a : Act) (l : Held) → (set l.id ≡ true → IsCounted place n) → IsShown set months place l → IsShown set months place (with_entry (entry n d a) l)
entry_keeps set months place n d a l new h = record {
  counted = λ is. record {
    entries = All-append (IsCountedEntry place) l.account.entries (entry n d a ∷ []) ((h.counted is).entries) (All-cons (IsCountedEntry place) (entry n d a) [] (new is) (All-nil (IsCountedEntry place)));
    reversals = (h.counted is).reversals;
  };
  since = h.since;
}

reversal_keeps : (set months : ℕ → Bool) (place : ℕ → ℕ) (number n : ℕ) (l : Held) → (set l.id ≡ true → IsCounted place number) → IsShown set months place l → IsShown set months place (with_reversal number n l)
reversal_keeps set months place number n l new h = record {
  counted = λ is. record {
    entries = (h.counted is).entries;
    reversals = All-append (IsCountedPair place) l.account.reversals ((number, n) ∷ []) ((h.counted is).reversals) (All-cons (IsCountedPair place) (number, n) [] (new is) (All-nil (IsCountedPair place)));
  };
  since = h.since;
}

-- two states of a loan with the same entries, reversals and boarded month
record AreSame (l k : Held) : Type 0 where
  entries : k.account.entries ≡ l.account.entries
  reversals : k.account.reversals ≡ l.account.reversals
  month : boarded_month k ≡ boarded_month l

same_keeps : (set months : ℕ → Bool) (place : ℕ → ℕ) (l k : Held) → k.id ≡ l.id → AreSame l k → IsShown set months place l → IsShown set months place k
same_keeps set months place l k e same h = record {
  counted = λ is. let was = h.counted (sym (ap set e) ∙ is) in record {
    entries = subst (All (IsCountedEntry place)) (sym same.entries) was.entries;
    reversals = subst (All (IsCountedPair place)) (sym same.reversals) was.reversals;
  };
  since = λ is p early. subst (λ m. p < m) (sym same.month) (h.since (sym (ap set e) ∙ is) p early);
}

on_day_all : (set months : ℕ → Bool) (place : ℕ → ℕ) (d : ℕ) (ls : List Held) → All_shown set months place ls → All_shown set months place (map (on_day d) ls)
on_day_all set months place d [] h = h
on_day_all set months place d (l ∷ ls) h = All-cons (IsShown set months place) (on_day d l) (map (on_day d) ls)
    (same_keeps set months place l (on_day d l) refl (record { entries = refl; reversals = refl; month = refl }) (All-head (IsShown set months place) l ls h))
    (on_day_all set months place d ls (All-tail (IsShown set months place) l ls h))

plain_all : (set months : ℕ → Bool) (place : ℕ → ℕ) (id : ℕ) (f : Held → Held) (ls : List Held) → KeepsNumber f → ((k : Held) → AreSame k (f k)) → All_shown set months place ls → All_shown set months place (changed id f ls)
plain_all set months place id f ls keeps same h = changed_shown set months place id f ls h (λ k e is. same_keeps set months place k (f k) (keeps k) (same k) is)

entry_all : (set months : ℕ → Bool) (place : ℕ → ℕ) (n d id : ℕ) (a : Act) (ls : List Held) → (set id ≡ true → IsCounted place n) → All_shown set months place ls → All_shown set months place (changed id (with_entry (entry n d a)) ls)
entry_all set months place n d id a ls new h = changed_shown set months place id (with_entry (entry n d a)) ls h (λ k e is. entry_keeps set months place n d a k (λ member. new (sym (ap set e) ∙ member)) is)

pub later_shown : (set months : ℕ → Bool) (place : ℕ → ℕ) (n today : ℕ) (loans : List Held) (c : Command) → IsFitting set months place n c → All_shown set months place loans → All_shown set months place (loans_after n today loans c)
unfolding loans_after
later_shown set months place n today loans (command.Day d) fit h = on_day_all set months place d loans h
later_shown set months place n today loans (command.Board id t) fit h = with_loan_all (IsShown set months place) (boarded id t today) loans (record { counted = λ is. record { entries = All-nil (IsCountedEntry place); reversals = All-nil (IsCountedPair place) }; since = fit.since }) h
later_shown set months place n today loans (command.Pay id d c over) fit h = entry_all set months place n d id (act.Pay c over) loans fit.counted h
later_shown set months place n today loans (command.Curtail id d c) fit h = entry_all set months place n d id (act.Curtail c) loans fit.counted h
later_shown set months place n today loans (command.Payoff id d c) fit h = entry_all set months place n d id (act.Payoff c) loans fit.counted h
later_shown set months place n today loans (command.Deposit id d c) fit h = entry_all set months place n d id (act.Deposit c) loans fit.counted h
later_shown set months place n today loans (command.Disburse id d c line) fit h = entry_all set months place n d id (act.Disburse c line) loans fit.counted h
later_shown set months place n today loans (command.Refund id c) fit h = entry_all set months place n today id (act.Refund c) loans fit.counted h
later_shown set months place n today loans (command.Waive id c) fit h = entry_all set months place n today id (act.Waive c) loans fit.counted h
later_shown set months place n today loans (command.Reverse id number) fit h = changed_shown set months place id (with_reversal number n) loans h (λ k e is. reversal_keeps set months place number n k (λ member. fit.named (sym (ap set e) ∙ member)) is)
later_shown set months place n today loans (command.Line id line kind month every c) fit h = plain_all set months place id (with_bill (record { id = line; kind = kind; month = month; every = every; cents = c })) loans (λ k. refl) (λ k. record { entries = refl; reversals = refl; month = refl }) h
later_shown set months place n today loans (command.Drop id line) fit h = plain_all set months place id (without_bill line) loans (λ k. refl) (λ k. record { entries = refl; reversals = refl; month = refl }) h
later_shown set months place n today loans (command.Analyse id plan) fit h = changed_shown set months place id (with_analysis n today plan) loans h (λ k e is. entry_keeps set months place n today (act.Analyse (Rattle.svc_world.specs.Analysing.settlement_of k plan)) k (λ member. fit.counted (sym (ap set e) ∙ member)) is)
later_shown set months place n today loans (command.Close p) fit h = h
later_shown set months place n today loans (command.Remit p) fit h = h
later_shown set months place n today loans (command.Retype id from kind) fit h = plain_all set months place id (with_type (type_change from kind)) loans (λ k. refl) (λ k. record { entries = refl; reversals = refl; month = refl }) h

-- ---- a command on loans

-- an entry of a loan of the set
entry_step : (set : ℕ → Bool) (place : ℕ → ℕ) (n d id : ℕ) (a : Act) (loans : List Held) → set id ≡ true → loans_shown set place (changed id (with_entry (entry n d a)) loans) ≡ changed id (with_entry (entry (place n) d a)) (loans_shown set place loans)
entry_step set place n d id a loans is = shown_changed set place id (with_entry (entry n d a)) (with_entry (entry (place n) d a)) loans is (λ k. refl) (λ i x lt e. entry_shown place n d a (Rattle.std.specs.Prelude.get_or loans i x))

reversal_step : (set : ℕ → Bool) (place : ℕ → ℕ) (number n id : ℕ) (loans : List Held) → set id ≡ true → loans_shown set place (changed id (with_reversal number n) loans) ≡ changed id (with_reversal (place number) (place n)) (loans_shown set place loans)
reversal_step set place number n id loans is = shown_changed set place id (with_reversal number n) (with_reversal (place number) (place n)) loans is (λ k. refl) (λ i x lt e. reversal_shown place number n (Rattle.std.specs.Prelude.get_or loans i x))

loans_step : (set months : ℕ → Bool) (place : ℕ → ℕ) (n today : ℕ) (loans : List Held) (c : Command) → Counts place → AllPairs rises loans → All_shown set months place loans → is_for set months c ≡ true → loans_shown set place (loans_after n today loans c) ≡ loans_after (place n) today (loans_shown set place loans) (renumbered place c)
unfolding loans_after
loans_step set months place n today loans (command.Day d) counts rise h is = shown_mapped set place (on_day d) loans (λ k. refl) (λ l. refl)
loans_step set months place n today loans (command.Board id t) counts rise h is = shown_boarded set place (boarded id t today) loans is rise
loans_step set months place n today loans (command.Pay id d c over) counts rise h is = entry_step set place n d id (act.Pay c over) loans is
loans_step set months place n today loans (command.Curtail id d c) counts rise h is = entry_step set place n d id (act.Curtail c) loans is
loans_step set months place n today loans (command.Payoff id d c) counts rise h is = entry_step set place n d id (act.Payoff c) loans is
loans_step set months place n today loans (command.Deposit id d c) counts rise h is = entry_step set place n d id (act.Deposit c) loans is
loans_step set months place n today loans (command.Disburse id d c line) counts rise h is = entry_step set place n d id (act.Disburse c line) loans is
loans_step set months place n today loans (command.Refund id c) counts rise h is = entry_step set place n today id (act.Refund c) loans is
loans_step set months place n today loans (command.Waive id c) counts rise h is = entry_step set place n today id (act.Waive c) loans is
loans_step set months place n today loans (command.Reverse id number) counts rise h is = reversal_step set place number n id loans is
loans_step set months place n today loans (command.Line id line kind month every c) counts rise h is = shown_changed set place id (with_bill (record { id = line; kind = kind; month = month; every = every; cents = c })) (with_bill (record { id = line; kind = kind; month = month; every = every; cents = c })) loans is (λ k. refl) (λ i d lt e. refl)
loans_step set months place n today loans (command.Drop id line) counts rise h is = shown_changed set place id (without_bill line) (without_bill line) loans is (λ k. refl) (λ i d lt e. refl)
loans_step set months place n today loans (command.Analyse id plan) counts rise h is = shown_changed set place id (with_analysis n today plan) (with_analysis (place n) today plan) loans is (λ k. refl) (λ i d lt e. analysis_shown place n today plan (Rattle.std.specs.Prelude.get_or loans i d) counts ((h i d lt).counted e))
loans_step set months place n today loans (command.Close p) counts rise h is = refl
loans_step set months place n today loans (command.Remit p) counts rise h is = refl
loans_step set months place n today loans (command.Retype id from kind) counts rise h is = shown_changed set place id (with_type (type_change from kind)) (with_type (type_change from kind)) loans is (λ k. refl) (λ i d lt e. refl)

-- a command on another loan
loans_hidden : (set months : ℕ → Bool) (place : ℕ → ℕ) (n today : ℕ) (loans : List Held) (c : Command) → is_for set months c ≡ false → loans_shown set place (loans_after n today loans c) ≡ loans_shown set place loans
unfolding loans_after
loans_hidden set months place n today loans (command.Day d) is = absurd (cc)
loans_hidden set months place n today loans (command.Board id t) is = shown_not_boarded set place (boarded id t today) loans is
loans_hidden set months place n today loans (command.Pay id d c over) is = shown_unchanged set place id (with_entry (entry n d (act.Pay c over))) loans is (λ k. refl)
loans_hidden set months place n today loans (command.Curtail id d c) is = shown_unchanged set place id (with_entry (entry n d (act.Curtail c))) loans is (λ k. refl)
loans_hidden set months place n today loans (command.Payoff id d c) is = shown_unchanged set place id (with_entry (entry n d (act.Payoff c))) loans is (λ k. refl)
loans_hidden set months place n today loans (command.Deposit id d c) is = shown_unchanged set place id (with_entry (entry n d (act.Deposit c))) loans is (λ k. refl)
loans_hidden set months place n today loans (command.Disburse id d c line) is = shown_unchanged set place id (with_entry (entry n d (act.Disburse c line))) loans is (λ k. refl)
loans_hidden set months place n today loans (command.Refund id c) is = shown_unchanged set place id (with_entry (entry n today (act.Refund c))) loans is (λ k. refl)
loans_hidden set months place n today loans (command.Waive id c) is = shown_unchanged set place id (with_entry (entry n today (act.Waive c))) loans is (λ k. refl)
loans_hidden set months place n today loans (command.Reverse id number) is = shown_unchanged set place id (with_reversal number n) loans is (λ k. refl)
loans_hidden set months place n today loans (command.Line id line kind month every c) is = shown_unchanged set place id (with_bill (record { id = line; kind = kind; month = month; every = every; cents = c })) loans is (λ k. refl)
loans_hidden set months place n today loans (command.Drop id line) is = shown_unchanged set place id (without_bill line) loans is (λ k. refl)
loans_hidden set months place n today loans (command.Analyse id plan) is = shown_unchanged set place id (with_analysis n today plan) loans is (λ k. refl)
loans_hidden set months place n today loans (command.Close p) is = refl
loans_hidden set months place n today loans (command.Remit p) is = refl
loans_hidden set months place n today loans (command.Retype id from kind) is = shown_unchanged set place id (with_type (type_change from kind)) loans is (λ k. refl)

-- ---- the world

-- the world after a command that closes no month
abbrev made : ℕ → ℕ → World → List Held → Option ℕ → World
made n today w later remitted = record {
  today = today;
  loans = later;
  seals = reporting w.seals.reports (w.seals.pending ++ changes_of n (months_of w.seals.reports) w.loans later);
  remitted = remitted;
}

made_shown : (set months : ℕ → Bool) (place : ℕ → ℕ) (n today : ℕ) (w : World) (later : List Held) (remitted : Option ℕ) → Counts place → All_shown set months place w.loans → All_shown set months place later → shown set months place (made n today w later remitted) ≡ made (place n) today (shown set months place w) (loans_shown set place later) (remitted_shown months remitted)
made_shown set months place n today w later remitted counts h h' =
    let build : List Adjustment → World = λ ps. record { today = today; loans = loans_shown set place later; seals = reporting (reports_shown set months place w.seals.reports) ps; remitted = remitted_shown months remitted } in
    ap build (shown_append set place w.seals.pending (changes_of n (months_of w.seals.reports) w.loans later)
    ∙ ap (λ xs. adjustments_shown set place w.seals.pending ++ xs) (changes_shown set months place n (months_of w.seals.reports) w.loans later counts h h')
    ∙ ap (λ ms. adjustments_shown set place w.seals.pending ++ changes_of (place n) ms (loans_shown set place w.loans) (loans_shown set place later)) (sym (months_shown set months place w.seals.reports)))

-- where no loan of it changes a world is as it was
made_same : (n : ℕ) (v : World) → AllPairs rises v.loans → made n v.today v v.loans v.remitted ≡ v
made_same n v rise =
    ap (λ ps. record v { seals = reporting v.seals.reports ps }) (ap (λ xs. v.seals.pending ++ xs) (changes_kept n (months_of v.seals.reports) v.loans v.loans (all_found v.loans rise)) ∙ append-nil v.seals.pending)

-- a month that is closed
closing_shown : (set months : ℕ → Bool) (place : ℕ → ℕ) (w : World) (p : ℕ) → Counts place → All_shown set months place w.loans → months p ≡ true → reports_shown set months place (w.seals.reports ++ report_of p (lines_of w.seals.pending p w.loans) w.seals.pending ∷ []) ≡ reports_shown set months place w.seals.reports ++ report_of p (lines_of (adjustments_shown set place w.seals.pending) p (loans_shown set place w.loans)) (adjustments_shown set place w.seals.pending) ∷ []
closing_shown set months place w p counts h is =
    let report = report_of p (lines_of w.seals.pending p w.loans) w.seals.pending in
    reports_append set months place w.seals.reports (report ∷ [])
    ∙ ap (λ v. reports_shown set months place w.seals.reports ++ (if v then report_shown set place report ∷ [] else [])) is
    ∙ ap (λ (ls : List ReportLine). reports_shown set months place w.seals.reports ++ record { month = p; lines = ls; adjustments = adjustments_shown set place w.seals.pending } ∷ []) (lines_shown set months place w.seals.pending p w.loans counts h)

closed_hidden : (set months : ℕ → Bool) (place : ℕ → ℕ) (w : World) (p : ℕ) → months p ≡ false → reports_shown set months place (w.seals.reports ++ report_of p (lines_of w.seals.pending p w.loans) w.seals.pending ∷ []) ≡ reports_shown set months place w.seals.reports
closed_hidden set months place w p is =
    let report = report_of p (lines_of w.seals.pending p w.loans) w.seals.pending in
    reports_append set months place w.seals.reports (report ∷ [])
    ∙ ap (λ v. reports_shown set months place w.seals.reports ++ (if v then report_shown set place report ∷ [] else [])) is
    ∙ append-nil (reports_shown set months place w.seals.reports)

-- a command that is not of the part, and shows nothing: where a month is closed nothing of the set is pending,
-- and where one is remitted none of the part's was
abbrev pub IsHidden : (ℕ → Bool) → (ℕ → Bool) → (ℕ → ℕ) → World → Command → Type 0
IsHidden set months place w (command.Close p) = adjustments_shown set place w.seals.pending ≡ []
IsHidden set months place w (command.Remit p) = remitted_shown months w.remitted ≡ None
IsHidden set months place w c = ⊤

by_loans : (set months : ℕ → Bool) (place : ℕ → ℕ) (n today : ℕ) (w : World) (later later' : List Held) → Counts place → All_shown set months place w.loans → All_shown set months place later → loans_shown set place later ≡ later' → shown set months place (made n today w later w.remitted) ≡ made (place n) today (shown set months place w) later' (remitted_shown months w.remitted)
by_loans set months place n today w later later' counts h h' same =
    made_shown set months place n today w later w.remitted counts h h'
    ∙ ap (λ ls. made (place n) today (shown set months place w) ls (remitted_shown months w.remitted)) same

-- a command of the part
pub step_shown : (set months : ℕ → Bool) (place : ℕ → ℕ) (n : ℕ) (w : World) (c : Command) → Counts place → AllPairs rises w.loans → All_shown set months place w.loans → All_shown set months place (loans_after n w.today w.loans c) → is_for set months c ≡ true → shown set months place (after n w c) ≡ after (place n) (shown set months place w) (renumbered place c)
unfolding after seals_after loans_after
step_shown set months place n w (command.Close p) counts rise h h' is =
    ap (λ rs. record { today = w.today; loans = loans_shown set place w.loans; seals = reporting rs []; remitted = remitted_shown months w.remitted }) (closing_shown set months place w p counts h is)
step_shown set months place n w (command.Remit p) counts rise h h' is =
    made_shown set months place n w.today w w.loans (Some p) counts h h
    ∙ ap (λ v. made (place n) w.today (shown set months place w) (loans_shown set place w.loans) (if v then Some p else None)) is
step_shown set months place n w (command.Day d) counts rise h h' is = by_loans set months place n d w _ _ counts h h' (loans_step set months place n w.today w.loans (command.Day d) counts rise h is)
step_shown set months place n w c counts rise h h' is = by_loans set months place n w.today w _ _ counts h h' (loans_step set months place n w.today w.loans c counts rise h is)

hidden_by : (set months : ℕ → Bool) (place : ℕ → ℕ) (n : ℕ) (w : World) (later : List Held) → Counts place → AllPairs rises w.loans → All_shown set months place w.loans → All_shown set months place later → loans_shown set place later ≡ loans_shown set place w.loans → shown set months place (made n w.today w later w.remitted) ≡ shown set months place w
hidden_by set months place n w later counts rise h h' same =
    by_loans set months place n w.today w later (loans_shown set place w.loans) counts h h' same
    ∙ made_same (place n) (shown set months place w) (rising_shown set place w.loans rise)

pub step_hidden : (set months : ℕ → Bool) (place : ℕ → ℕ) (n : ℕ) (w : World) (c : Command) → Counts place → AllPairs rises w.loans → All_shown set months place w.loans → All_shown set months place (loans_after n w.today w.loans c) → IsHidden set months place w c → is_for set months c ≡ false → shown set months place (after n w c) ≡ shown set months place w
unfolding after seals_after loans_after
step_hidden set months place n w (command.Close p) counts rise h h' hidden is =
    ap (λ rs. record { today = w.today; loans = loans_shown set place w.loans; seals = reporting rs []; remitted = remitted_shown months w.remitted }) (closed_hidden set months place w p is)
    ∙ ap (λ ps. record { today = w.today; loans = loans_shown set place w.loans; seals = reporting (reports_shown set months place w.seals.reports) ps; remitted = remitted_shown months w.remitted }) (sym hidden)
step_hidden set months place n w (command.Remit p) counts rise h h' hidden is =
    made_shown set months place n w.today w w.loans (Some p) counts h h
    ∙ ap (λ v. made (place n) w.today (shown set months place w) (loans_shown set place w.loans) (if v then Some p else None)) is
    ∙ ap (λ o. made (place n) w.today (shown set months place w) (loans_shown set place w.loans) o) (sym hidden)
    ∙ made_same (place n) (shown set months place w) (rising_shown set place w.loans rise)
step_hidden set months place n w (command.Day d) counts rise h h' hidden is = absurd (cc)
step_hidden set months place n w c counts rise h h' hidden is = hidden_by set months place n w _ counts rise h h' (loans_hidden set months place n w.today w.loans c is)
