-- What is held of a loan, and of all loans in the order of their numbers: entries, lines and changes of
-- type. No books are held and no sums: these follow.
use Rattle.std.specs.Prelude.{ℕ, Bool, ◌==◌, ◌++◌, nat_lt, if◌then◌else◌, List, [], ◌∷◌, Option}
use Rattle.std.specs.List.{find}
use Rattle.svc_base.specs.Calendar.{month_of}
use Rattle.svc_types.specs.declared.terms.Terms.{Terms}
use Rattle.svc_types.specs.declared.account.Entry.{Entry}
use Rattle.svc_types.specs.declared.books.Books.{Books}
use Rattle.svc_types.specs.declared.requests.TypeChange.{TypeChange}
use Rattle.svc_spec.specs.Accounts.{Account, begun, posted, reversed_in, advanced_to, books_of}
use Rattle.escrow_lines.specs.declared.line.Line.{Line}
use Rattle.escrow_lines.specs.BillLists.{with_line, without_line}

-- a loan: its number, its account, its escrow lines, and its changes of remittance type as they were
-- accepted
pub record Held : Type 0 where
  pub id : ℕ
  pub account : Account
  pub lines : List Line
  pub types : List TypeChange

-- the month in which the loan was taken on
abbrev pub boarded_month : Held → ℕ
boarded_month l = month_of l.account.terms.boarded

-- the loan's books at the business day
abbrev pub books_now : Held → Books
books_now l = books_of l.account l.account.today

-- a loan that is taken on
abbrev pub boarded : ℕ → Terms → ℕ → Held
boarded id t today = record { id = id; account = begun t today; lines = []; types = [] }

-- with one more entry
abbrev pub with_entry : Entry → Held → Held
with_entry e l = record l { account = posted e l.account }

-- with the entry of that number reversed by a command
abbrev pub with_reversal : ℕ → ℕ → Held → Held
with_reversal number by l = record l { account = reversed_in number by l.account }

-- on another business day
abbrev pub on_day : ℕ → Held → Held
on_day d l = record l { account = advanced_to d l.account }

-- with a line set, or the one with its id replaced
abbrev pub with_bill : Line → Held → Held
with_bill line l = record l { lines = with_line line l.lines }

-- without the line with that id
abbrev pub without_bill : ℕ → Held → Held
without_bill id l = record l { lines = without_line id l.lines }

-- with one more change of type
abbrev pub with_type : TypeChange → Held → Held
with_type c l = record l { types = l.types ++ c ∷ [] }

abbrev pub has_number : ℕ → Held → Bool
has_number id l = l.id == id

-- the loan with a number
abbrev pub find_loan : ℕ → List Held → Option Held
find_loan id loans = find (has_number id) loans

-- loans by rising number, with one more
abbrev pub with_loan : Held → List Held → List Held
with_loan l [] = l ∷ []
with_loan l (k ∷ ks) = if nat_lt l.id k.id then l ∷ k ∷ ks else k ∷ with_loan l ks

-- loans, with the one of that number changed
abbrev pub changed : ℕ → (Held → Held) → List Held → List Held
changed id f [] = []
changed id f (l ∷ ls) = if l.id == id then f l ∷ ls else l ∷ changed id f ls
