-- Why a query is refused, and what is answered to it.
use Rattle.std.specs.Prelude.{ℕ, ◌==◌, ◌||◌, not, nat_lt, List, [], ◌∷◌, length, Option, Some, is_some, ℤ, pos, ◌+ℤ◌}
use Rattle.std.specs.Option.{option_map, option_map_or}
use Rattle.svc_base.specs.Calendar.{month_of}
use Rattle.svc_types.specs.declared.books.Books.{Books}
use Rattle.svc_types.specs.declared.books.Installment.{Installment}
use Rattle.svc_types.specs.declared.replies.Refusal.{Refusal}
use Rattle.svc_types.specs.declared.replies.Refusal.TheVariants.{NoSuchEntry, NoSuchCommand}
use Rattle.svc_types.specs.declared.requests.Query.{Query}
use Rattle.svc_types.specs.declared.requests.Query.TheVariants as query
use Rattle.svc_spec.specs.Accounts.{books_of}
use Rattle.svc_spec.specs.Arrears.{arrears_of}
use Rattle.svc_spec.specs.History.{history_of}
use Rattle.svc_spec.specs.Installments.{open_installment}
use Rattle.custodial_book.specs.declared.row.Row.{Row}
use Rattle.custodial_book.specs.Rows.{rows_of_command}
use Rattle.svc_world.specs.declared.answer.Answer.{Answer}
use Rattle.svc_world.specs.declared.answer.Answer.TheVariants as answer
use Rattle.svc_world.specs.Held.{Held, find_loan, books_now}
use Rattle.svc_world.specs.Analysing.{asked_figures, analysis_of}
use Rattle.svc_world.specs.World.{World, Accepted, world}
use Rattle.svc_world.specs.Refusals.{Case, case, first_of, on_loan, before_boarding, day_cases, report_cases, payoff_due_on}
use Rattle.svc_world.specs.Custody.{custody_of, rows_in}
use Rattle.svc_world.specs.Judging.{report_for}
use Rattle.svc_world.specs.Desk.{quoted, per_day, late_loans, counts_of, status_of, Posting, postings, nth_posting, posting_under}

-- ---- why a query is refused

abbrev pub cases_by_query : World → List Posting → Query → List Case
cases_by_query w ps (query.Books id) = on_loan w id (λ l. [])
cases_by_query w ps (query.At id d) = on_loan w id (day_cases w d)
cases_by_query w ps (query.Payoff id d) = on_loan w id (day_cases w d)
cases_by_query w ps (query.Escrow id) = on_loan w id (λ l. [])
cases_by_query w ps (query.Report p) = report_cases w p
cases_by_query w ps (query.Trial p) = report_cases w p
cases_by_query w ps query.Custodial = []
cases_by_query w ps (query.Rows number) = case ((number == 0) || nat_lt (length ps) number) NoSuchEntry ∷ []
cases_by_query w ps (query.Loan id) = on_loan w id (λ l. [])
cases_by_query w ps (query.History id) = on_loan w id (λ l. [])
cases_by_query w ps (query.Quote id d) = on_loan w id (λ l. before_boarding l d ∷ [])
cases_by_query w ps (query.Arrears id) = on_loan w id (λ l. [])
cases_by_query w ps query.Aging = []
cases_by_query w ps query.Status = []
cases_by_query w ps (query.Command number) = case ((number == 0) || nat_lt (length ps) number) NoSuchCommand ∷ []
cases_by_query w ps (query.Key key) = case (not (is_some (posting_under key ps))) NoSuchCommand ∷ []

-- why a query is refused, from the world and the commands with their replies
unfoldable pub refusal_from : World → List Posting → Query → Option Refusal
refusal_from w ps q = first_of (cases_by_query w ps q)

-- why a query is refused after a history
abbrev pub query_refusal : List Accepted → Query → Option Refusal
query_refusal h q = refusal_from (world h) (postings h) q

-- ---- what is answered

-- the whole of an installment
abbrev pub whole_of : Installment → ℤ
whole_of i = i.interest +ℤ i.principal +ℤ i.escrow

-- a loan's books, the month of its open installment, and the whole of that
abbrev pub books_answer : Held → Books → Answer
books_answer l b =
    answer.Books l.id b
    (option_map (λ (i : Installment). month_of i.due) (open_installment l.account.terms b))
    (option_map_or whole_of (open_installment l.account.terms b) (pos 0))

-- an answer on a loan that is there
abbrev pub of_loan : World → ℕ → (Held → Answer) → Option Answer
of_loan w id answered = option_map answered (find_loan id w.loans)

-- a command with its key, and its reply
abbrev pub posting_answer : Posting → Answer
posting_answer p = answer.Command p.key p.command p.reply

-- the answer to a query that is not refused, from the world, the rows of all commands, and the commands with their
-- replies
unfoldable pub answer_from : World → List Row → List Posting → Query → Option Answer
answer_from w rows ps (query.Books id) = of_loan w id (λ l. books_answer l (books_now l))
answer_from w rows ps (query.At id d) = of_loan w id (λ l. books_answer l (books_of l.account d))
answer_from w rows ps (query.Payoff id d) = of_loan w id (λ l. answer.Payoff id d (payoff_due_on l d))
answer_from w rows ps (query.Escrow id) = of_loan w id (λ l. answer.Escrow id (asked_figures l) (analysis_of l))
answer_from w rows ps (query.Report p) = option_map answer.Report (report_for p w.seals.reports)
answer_from w rows ps (query.Trial p) = option_map answer.Trial (report_for p w.seals.reports)
answer_from w rows ps query.Custodial = Some (answer.Custodial (custody_of w))
answer_from w rows ps (query.Rows number) = Some (answer.Rows number (rows_of_command number rows))
answer_from w rows ps (query.Loan id) = of_loan w id (λ l. answer.Loan id l.account.terms l.lines l.types)
answer_from w rows ps (query.History id) =
    of_loan w id (λ l. answer.History id w.today (history_of l.account) l.account.reversals)
answer_from w rows ps (query.Quote id d) = of_loan w id (λ l. answer.Quote id d (quoted l d) (per_day l d))
answer_from w rows ps (query.Arrears id) =
    of_loan w id (λ l. answer.Arrears id w.today (arrears_of l.account.terms w.today (books_now l)))
answer_from w rows ps query.Aging =
    Some (answer.Aging w.today (late_loans w.today w.loans) (counts_of w.today w.loans))
answer_from w rows ps query.Status = Some (answer.Status (status_of (length ps) w))
answer_from w rows ps (query.Command number) = option_map posting_answer (nth_posting number ps)
answer_from w rows ps (query.Key key) = option_map posting_answer (posting_under key ps)

-- the answer to a query after a history
abbrev pub answer_to : List Accepted → Query → Option Answer
answer_to h q = answer_from (world h) (rows_in h) (postings h) q
