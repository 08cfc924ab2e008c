-- A regular payment on the business day is the last event, so its step says what it leaves overdue.
use Rattle.std.proofs.Common.{◌≡◌, ℕ, ◌↔◌, Bool, false, refl, ap, subst, sym, ◌∙◌}
use Rattle.std.specs.Prelude.{ℤ, ◌≤ℤ◌}
use Rattle.svc_types.specs.declared.books.Books.{Books}
use Rattle.svc_spec.specs.Settling.{is_overdue}
use Rattle.svc_spec.specs.Step.{step}
use Rattle.svc_spec.specs.Accounts.{Account, IsAccount, MayPost, posted, books_of}
use Rattle.svc_spec.proofs.AccountLemmas.{account_books}
use Rattle.svc_spec.proofs.ArrearsLemmas.{payment_on, payment_least}
use Rattle.svc_spec.proofs.DayLemmas.{on, step_on}
use Rattle.svc_replay.specs.ArrearsLaw.{payment_today, NoneIsOverdue, to_pay}
use Rattle.svc_replay.proofs.LastLemmas.{quiet_today, posted_books}

-- its books are those of one step more
paid_books : (a : Account) (n : ℕ) (x : ℤ) → IsAccount a → MayPost a (payment_today a n x) → books_of (posted (payment_today a n x) a) a.today ≡ on a.today (step a.terms (payment_on a.today x) (books_of a a.today))
paid_books a n x h may =
    posted_books a (payment_today a n x) h may (quiet_today a a.today h refl)
    ∙ ap (on a.today) (step_on a.terms (payment_on a.today x) a.today (books_of a a.today))

pub least_that_pays : (a : Account) (n : ℕ) (x : ℤ) → IsAccount a → MayPost a (payment_today a n x) → NoneIsOverdue (posted (payment_today a n x) a) ↔ (to_pay a ≤ℤ x)
least_that_pays a n x h may =
    let t = a.terms in
    let d = a.today in
    let b = books_of a d in
    let same : is_overdue t d (books_of (posted (payment_today a n x) a) d) ≡ is_overdue t d (step t (payment_on d x) b) = ap (λ (y : Books). is_overdue t d y) (paid_books a n x h may) in
    let P : Bool → Type 0 = λ v. (v ≡ false) ↔ (to_pay a ≤ℤ x) in
    subst P (sym same) (payment_least t d x b h.terms may.act (account_books a d h).signs)
