-- Each answer to a query after a history has a text: what it says without a sign is not below 0, and the months of an
-- escrow analysis have names.
use Rattle.std.proofs.Common.{◌≡◌, ℕ, List, ◌+◌, length, arith, refl, sym, subst}
use Rattle.std.specs.Prelude.{Option, Some, None}
use Rattle.std.specs.Option.{option_map}
use Rattle.svc_base.specs.Calendar.{IsReadDay, month_of}
use Rattle.svc_types.specs.declared.requests.Query.{Query}
use Rattle.svc_types.specs.declared.requests.Query.TheVariants as query
use Rattle.svc_world.specs.declared.answer.Answer.{Answer}
use Rattle.svc_world.specs.Held.{Held, find_loan}
use Rattle.svc_world.specs.Analysing.{year_begins}
use Rattle.svc_world.specs.World.{Accepted, world}
use Rattle.svc_world.specs.Worlds.{IsHeld}
use Rattle.svc_world.specs.Judging.{IsHistory}
use Rattle.svc_world.specs.Desk.{postings, nth_posting, posting_under}
use Rattle.svc_world.specs.Answers.{answer_from, answer_to}
use Rattle.svc_world.specs.Unsigned.{IsUnsignedAnswer}
use Rattle.svc_world.proofs.HistoryLemmas.{is_world}
use Rattle.svc_world.proofs.LoanListLemmas.{found_all}
use Rattle.svc_world.proofs.UnsignedLemmas.{answer_low}
use Rattle.serv_report.specs.EscrowText.{HasYear}
use Rattle.serv_report.specs.AnswerTexts.{IsSpellable}
use Rattle.serv_report.proofs.PostingLemmas.{nth_low, under_low}

-- the year after a day that requests may name lies before the end of the calendar
year_after : (d : ℕ) → IsReadDay d → HasYear (month_of d + 1)
year_after d h = let last = h.last in omega (arith, last)

loan_year : (h : List Accepted) (id : ℕ) (l : Held) → IsHistory h → find_loan id (world h).loans ≡ Some l → HasYear (year_begins l)
loan_year h id l is found =
    let w = is_world h is in
    let held : IsHeld (length h) (world h).today l = found_all (IsHeld (length h) (world h).today) id (world h).loans l found w.held in
    subst (λ d. HasYear (month_of d + 1)) (sym held.today) (year_after (world h).today w.today)

-- what is made of something that is there
made : {A : Type 0} (f : A → Answer) (o : Option A) (a : Answer) → ((x : A) → o ≡ Some x → IsUnsignedAnswer (f x) → IsSpellable (f x)) → option_map f o ≡ Some a → IsUnsignedAnswer a → IsSpellable a
made f None a all e low = absurd (cc)
made f (Some x) a all e low = let same : f x ≡ a = cc in subst IsSpellable same (all x refl (subst IsUnsignedAnswer (sym same) low))

there : {x a : Answer} → (IsUnsignedAnswer x → IsSpellable x) → Some x ≡ Some a → IsUnsignedAnswer a → IsSpellable a
there {x} {a} all e low = let same : x ≡ a = cc in subst IsSpellable same (all (subst IsUnsignedAnswer (sym same) low))

by_query : (h : List Accepted) (q : Query) (a : Answer) → IsHistory h → answer_to h q ≡ Some a → IsUnsignedAnswer a → IsSpellable a
unfolding answer_from
by_query h (query.Books id) a is e = made _ _ a (λ l found low. low) e
by_query h (query.At id d) a is e = made _ _ a (λ l found low. low) e
by_query h (query.Payoff id d) a is e = made _ _ a (λ l found low. low) e
by_query h (query.Escrow id) a is e = made _ (find_loan id (world h).loans) a (λ l found low. (loan_year h id l is found, low)) e
by_query h (query.Report p) a is e = made _ _ a (λ r found low. low) e
by_query h (query.Trial p) a is e = made _ _ a (λ r found low. low) e
by_query h query.Custodial a is e = there (λ low. low) e
by_query h (query.Rows number) a is e = there (λ low. low) e
by_query h (query.Loan id) a is e = made _ _ a (λ l found low. low) e
by_query h (query.History id) a is e = made _ _ a (λ l found low. low) e
by_query h (query.Quote id d) a is e = made _ _ a (λ l found low. low) e
by_query h (query.Arrears id) a is e = made _ _ a (λ l found low. low) e
by_query h query.Aging a is e = there (λ low. low) e
by_query h query.Status a is e = there (λ low. low) e
by_query h (query.Command number) a is e = made _ (nth_posting number (postings h)) a (λ p found low. nth_low h number p is found) e
by_query h (query.Key key) a is e = made _ (posting_under key (postings h)) a (λ p found low. under_low h key p is found) e

pub spelled : (h : List Accepted) (q : Query) (a : Answer) → IsHistory h → answer_to h q ≡ Some a → IsSpellable a
spelled h q a is e = by_query h q a is e (answer_low h is q a e)
