-- What is kept beside reports and adjustments, after each call.
use Rattle.std.proofs.Common.{◌≡◌, ℕ, ◌+◌, ◌≤◌, List, [], ◌∷◌, ◌++◌, length, Option, Some, None, IfSome, arith, ap, sym, ◌∙◌, subst, refl}
use Rattle.std.specs.Prelude.{unwrap_or}
use Rattle.remit_types.specs.declared.dues.MonthDue.{MonthDue}
use Rattle.period_adjust.specs.declared.adjustment.Adjustment.{Adjustment}
use Rattle.period_adjust.specs.declared.report_line.ReportLine.{ReportLine}
use Rattle.period_adjust.specs.Sealed.{Sealed, Reporting, reporting}
use Rattle.period_adjust.specs.Sums.{report_of}
use Rattle.period_adjust.specs.Changes.{adjustments_of}
use Rattle.period_adjust.specs.Totals.{Change, Close, after}
use Rattle.period_adjust.specs.Conditions.{count_sent, IsClosed, MayChange, MayClose}
use Rattle.period_adjust.specs.Kept.{AreKept}
use Rattle.period_adjust.proofs.KeptLemmas.{count_sent-push, last_month-push, first_month-push, closed-push, closed_between, closed_from_first}
use Rattle.period_adjust.proofs.SealedLemmas.{sealed_change, sealed_close}
use Rattle.std.proofs.lemmas.List.{length-append}

-- a report is known by its fields
pub same_report : (r : Sealed) (month : ℕ) (lines : List ReportLine) (adjustments : List Adjustment) → r.month ≡ month → r.lines ≡ lines → r.adjustments ≡ adjustments → (let x : Sealed = record { month = month; lines = lines; adjustments = adjustments } in r ≡ x)
same_report r month lines adjustments e f g =
    ap (λ (z : ℕ). (let x : Sealed = record { month = z; lines = r.lines; adjustments = r.adjustments } in x)) e
    ∙ ap (λ (z : List ReportLine). (let x : Sealed = record { month = month; lines = z; adjustments = r.adjustments } in x)) f
    ∙ ap (λ (z : List Adjustment). (let x : Sealed = record { month = month; lines = lines; adjustments = z } in x)) g

remitted-push : (remitted : Option ℕ) (rs : List Sealed) (r : Sealed) → IfSome remitted (IsClosed rs) → IfSome remitted (IsClosed (rs ++ r ∷ []))
remitted-push None rs r h = h
remitted-push (Some m) rs r h = closed-push rs r m h

kept_close : (s : Reporting) (m : ℕ) (dues lines : List ReportLine) (held : ℕ) (first closed remitted : Option ℕ) → AreKept s lines held first closed remitted → MayClose s m dues → AreKept (after s (Close m dues)) [] held (Some (unwrap_or first m)) (Some m) remitted
kept_close s m dues lines held first closed remitted h may =
    let report : Sealed = report_of m dues s.pending in
    let sent : count_sent (s.reports ++ report ∷ []) ≡ count_sent s.reports + length s.pending = count_sent-push s.reports report in
    let was : held ≡ count_sent s.reports + length s.pending = h.held_is in
    record {
      sealed = sealed_close s m dues h.sealed may;
      lines_empty = refl;
      held_is = omega arith;
      held_most = h.held_most;
      first_is = ap (λ (o : Option ℕ). Some (unwrap_or o m)) h.first_is ∙ sym (first_month-push s.reports report);
      closed_is = sym (last_month-push s.reports report);
      remitted_closed = remitted-push remitted s.reports report h.remitted_closed;
    }

pub kept_closed : (s : Reporting) (m : ℕ) (dues lines : List ReportLine) (held : ℕ) (first closed remitted : Option ℕ) (rs : List Sealed) (ps : List Adjustment) (ls : List ReportLine) (first' : ℕ) → AreKept s lines held first closed remitted → MayClose s m dues → rs ≡ s.reports ++ report_of m dues s.pending ∷ [] → ps ≡ [] → ls ≡ [] → first' ≡ unwrap_or first m → AreKept (reporting rs ps) ls held (Some first') (Some m) remitted
kept_closed s m dues lines held first closed remitted rs ps ls first' h may e f g i =
    let kept = kept_close s m dues lines held first closed remitted h may in
    let first-is : AreKept (after s (Close m dues)) [] held (Some first') (Some m) remitted = subst (λ (x : ℕ). AreKept (after s (Close m dues)) [] held (Some x) (Some m) remitted) (sym i) kept in
    let lines-is : AreKept (after s (Close m dues)) ls held (Some first') (Some m) remitted = subst (λ (x : List ReportLine). AreKept (after s (Close m dues)) x held (Some first') (Some m) remitted) (sym g) first-is in
    let pending-is : AreKept (reporting (after s (Close m dues)).reports ps) ls held (Some first') (Some m) remitted = subst (λ (x : List Adjustment). AreKept (reporting (after s (Close m dues)).reports x) ls held (Some first') (Some m) remitted) (sym f) lines-is in
    subst (λ (x : List Sealed). AreKept (reporting x ps) ls held (Some first') (Some m) remitted) (sym e) pending-is

kept_change : (s : Reporting) (number l : ℕ) (before later : List MonthDue) (lines : List ReportLine) (held : ℕ) (first closed remitted : Option ℕ) → AreKept s lines held first closed remitted → MayChange s number l before later → AreKept (after s (Change number l before later)) lines (held + length (adjustments_of number l before later)) first closed remitted
kept_change s number l before later lines held first closed remitted h may =
    let more : length (s.pending ++ adjustments_of number l before later) ≡ length s.pending + length (adjustments_of number l before later) = length-append s.pending (adjustments_of number l before later) in
    let was : held ≡ count_sent s.reports + length s.pending = h.held_is in
    let few : count_sent s.reports + length s.pending + length (adjustments_of number l before later) ≤ 4_000_000 = may.few in
    record {
      sealed = sealed_change s number l before later h.sealed may;
      lines_empty = h.lines_empty;
      held_is = omega arith;
      held_most = omega arith;
      first_is = h.first_is;
      closed_is = h.closed_is;
      remitted_closed = h.remitted_closed;
    }

pub kept_changed : (s : Reporting) (number l : ℕ) (before later : List MonthDue) (lines : List ReportLine) (held : ℕ) (first closed remitted : Option ℕ) (ps : List Adjustment) (held' : ℕ) → AreKept s lines held first closed remitted → MayChange s number l before later → ps ≡ s.pending ++ adjustments_of number l before later → held' ≡ held + length (adjustments_of number l before later) → AreKept (reporting s.reports ps) lines held' first closed remitted
kept_changed s number l before later lines held first closed remitted ps held' h may e f =
    let kept = kept_change s number l before later lines held first closed remitted h may in
    let held-is : AreKept (after s (Change number l before later)) lines held' first closed remitted = subst (λ (x : ℕ). AreKept (after s (Change number l before later)) lines x first closed remitted) (sym f) kept in
    subst (λ (x : List Adjustment). AreKept (reporting s.reports x) lines held' first closed remitted) (sym e) held-is

-- a month that is remitted next: the first, or the one after the last remitted
pub kept_remit : (s : Reporting) (lines : List ReportLine) (held : ℕ) (first closed remitted : Option ℕ) (from to month : ℕ) → AreKept s lines held first closed remitted → first ≡ Some from → closed ≡ Some to → from ≤ month → month ≤ to → AreKept s lines held first closed (Some month)
kept_remit s lines held first closed remitted from to month h e f low high = record {
  sealed = h.sealed;
  lines_empty = h.lines_empty;
  held_is = h.held_is;
  held_most = h.held_most;
  first_is = h.first_is;
  closed_is = h.closed_is;
  remitted_closed = closed_between s.reports from to month h.sealed.consecutive (sym h.first_is ∙ e) (sym h.closed_is ∙ f) low high;
}

pub remitted_from_first : (s : Reporting) (lines : List ReportLine) (held : ℕ) (first closed remitted : Option ℕ) (from before : ℕ) → AreKept s lines held first closed remitted → first ≡ Some from → remitted ≡ Some before → from ≤ before
remitted_from_first s lines held first closed remitted from before h e f =
    let closed-is : IfSome (Some before) (IsClosed s.reports) = subst (λ (o : Option ℕ). IfSome o (IsClosed s.reports)) f h.remitted_closed in
    closed_from_first s.reports from before h.sealed.consecutive (sym h.first_is ∙ e) closed-is
