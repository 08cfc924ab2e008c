-- A business day up to which nothing happens to a loan: its books are those of the last one.
use Rattle.std.proofs.Common.{◌≡◌, ℕ, ◌+◌, ◌≤◌, ◌<◌, List, [], length, arith, refl, sym, ap, subst, ◌∙◌}
use Rattle.std.specs.Prelude.{IfSome, Some, None, true, false, nat_lt, if◌then◌else◌}
use Rattle.std.proofs.lemmas.Bool.Decides.{nat_tests}
use Rattle.svc_base.specs.Calendar.{month_of, IsDay}
use Rattle.svc_types.specs.declared.books.Books.{Books}
use Rattle.svc_types.proofs.OrderLemmas.{live_all}
use Rattle.svc_spec.specs.Books.{AreBooks}
use Rattle.svc_spec.specs.Events.{late_day, events_to, books_at, folded}
use Rattle.svc_spec.specs.Accounts.{Account, IsAccount, advanced_to, live_of, books_of}
use Rattle.svc_spec.specs.Months.{counted}
use Rattle.svc_spec.proofs.DayLemmas.{on}
use Rattle.svc_spec.proofs.TimeLemmas.{past}
use Rattle.svc_spec.proofs.PastLemmas.{books_past, length_past}
use Rattle.svc_spec.proofs.AccountLemmas.{account_books}
use Rattle.svc_replay.specs.declared.cursor.Lates.{Lates}
use Rattle.svc_replay.specs.Left.{AreLates, next_late}
use Rattle.svc_replay.proofs.LeftLemmas.{entries_end, none_leads}
use Rattle.svc_replay.proofs.AfterLemmas.{past_left}
use Rattle.svc_replay.proofs.CursorLemmas.{after_entries}
use Rattle.svc_checkpoint.specs.declared.month_end.MonthEnd.{MonthEnd}
use Rattle.svc_checkpoint.specs.Ends.{AreChecked}
use Rattle.svc_checkpoint.proofs.EndsLemmas.{checked_advance}

-- what the fast way to a business day knows of it
pub record IsQuietTo (a : Account) (d : ℕ) (l : Lates) : Type 0 where
  pub later : a.today ≤ d
  pub month : month_of d ≡ month_of a.today
  pub late : IfSome l.next (λ late. d < late)

none_past : (a : Account) (d : ℕ) (l : Lates) → IsAccount a → AreLates a.terms a.today l → IsQuietTo a d l → past a.today (events_to a.terms (live_of a) d) ≡ []
none_past a d l h lates quiet =
    let t = a.terms in
    let live = live_of a in
    let m = month_of a.today in
    let month = quiet.month in
    let after = h.after in
    let until = live_all (λ x. x.day ≤ a.today) a.entries a.reversals h.until in
    let place = after_entries t live a.today m l.count (length live) refl refl until lates.few lates.over lates.open_grace in
    let next : IfSome (next_late t l.count) (λ late. d < late) = subst (λ o. IfSome o (λ late. d < late)) lates.next quiet.late in
    past_left t live a.today d m l.count (length live) h.terms (omega arith) quiet.later place
    ∙ none_leads t live d m l.count (length live) h.terms (omega arith) next (entries_end live (length live) d (omega arith))

quiet_books : (a : Account) (d : ℕ) (l : Lates) → IsAccount a → AreLates a.terms a.today l → IsQuietTo a d l → books_of a d ≡ on d (books_of a a.today)
quiet_books a d l h lates quiet =
    books_past a.terms (live_of a) a.today d quiet.later
    ∙ ap (λ es. on d (folded a.terms (books_at a.terms (live_of a) a.today) es)) (none_past a d l h lates quiet)

quiet_lates : (a : Account) (d : ℕ) (l : Lates) → AreLates a.terms a.today l → IsQuietTo a d l → AreLates a.terms d l
quiet_lates a d l lates quiet =
    let later = quiet.later in
    record {
      few = lates.few;
      over = λ some. (let by = lates.over some in omega arith);
      open_grace = λ few. next_open few (subst (λ o. IfSome o (λ late. d < late)) lates.next quiet.late);
      next = lates.next;
    }
  where
    next_open : l.count < a.terms.term → IfSome (next_late a.terms l.count) (λ late. d < late) → d < late_day a.terms (l.count + 1)
    next_open few h =
        elim (nat_lt l.count a.terms.term) as (λ v. nat_lt l.count a.terms.term ≡ v → IfSome (if v then Some (late_day a.terms (l.count + 1)) else None) (λ late. d < late) → d < late_day a.terms (l.count + 1)) [
          | true ↦ λ e g. g
          | false ↦ λ e g. let more : a.terms.term ≤ l.count = grind (arith, nat_tests) in absurd (omega arith)
        ] refl h

pub quiet_checked : (a a' : Account) (d : ℕ) (ends : List MonthEnd) (b b' : Books) (l : Lates) → AreChecked a ends b l → IsDay d → IsQuietTo a d l → a' ≡ advanced_to d a → b' ≡ on d b → AreChecked a' ends b' l
quiet_checked a a' d ends b b' l h is quiet same moved =
    let count = h.count in
    let month = quiet.month in
    let now : b' ≡ books_of a d = moved ∙ ap (on d) h.now ∙ sym (quiet_books a d l h.account h.lates quiet) in
    checked_advance a a' d ends b' l h.account is quiet.later same (omega arith) h.ends now (subst (AreBooks a.terms) (sym now) (account_books a d h.account)) (quiet_lates a d l h.lates quiet)

-- and nothing is counted
pub quiet_steps : (a : Account) (d steps : ℕ) (l : Lates) → IsAccount a → AreLates a.terms a.today l → IsQuietTo a d l → steps + counted a.terms (live_of a) a.today ≡ steps + counted a.terms (live_of a) d
quiet_steps a d steps l h lates quiet =
    let none = ap length (none_past a d l h lates quiet) in
    let same = ap (λ (b : Books). b.next) (quiet_books a d l h lates quiet) in
    omega (arith, none, same, length_past a.terms (live_of a) a.today d quiet.later)
