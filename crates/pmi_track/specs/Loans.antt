-- A loan of a history: its terms and its books.
use Rattle.std.specs.Prelude.{◌≡◌, ℕ, ◌<◌, ◌≤◌, List, Option, Some, None}
use Rattle.std.specs.Option.{option_map}
use Rattle.svc_base.specs.Calendar.{month_of}
use Rattle.svc_types.specs.declared.terms.Terms.{Terms}
use Rattle.svc_types.specs.declared.books.Books.{Books}
use Rattle.svc_types.specs.declared.replies.Refusal.{Refusal}
use Rattle.svc_spec.specs.Accounts.{Account}
use Rattle.svc_world.specs.declared.answer.Answer.{Answer}
use Rattle.svc_world.specs.declared.answer.Answer.TheVariants as answer
use Rattle.svc_world.specs.Held.{Held, find_loan}
use Rattle.svc_world.specs.World.{World, Accepted, world}
use Rattle.svc_world.specs.Refusals.{first_of, on_loan, day_cases}

-- what holds of the account of a loan, where it is there
abbrev pub OfLoan : List Accepted → ℕ → (Account → Type 0) → Type 0
OfLoan h id P = (l : Held) → find_loan id (world h).loans ≡ Some l → P l.account

-- the terms of a loan
abbrev pub terms_in : World → ℕ → Option Terms
terms_in w id = option_map (λ (l : Held). l.account.terms) (find_loan id w.loans)

-- why the books of a loan on a day are not told
abbrev pub day_refusal : List Accepted → ℕ → ℕ → Option Refusal
day_refusal h id day = first_of (on_loan (world h) id (day_cases (world h) day))

-- the books that an answer tells
abbrev pub books_in : Answer → Option Books
books_in (answer.Books id b next pay) = Some b
books_in other = None

-- a month after the boarded one, up to the business day's
pub record IsLater (h : List Accepted) (t : Terms) (month : ℕ) : Type 0 where
  pub since : month_of t.boarded < month
  pub until : month ≤ month_of (world h).today
