-- What a loan's books are kept of: its terms, all its entries, their reversals, and the business day.
use Rattle.std.specs.Prelude.{◌≡◌, ℕ, ◌≤◌, ◌<◌, ◌==◌, true, is_some, Option, List, [], ◌∷◌, ◌++◌, length}
use Rattle.std.specs.List.{All, AllPairs, find}
use Rattle.std.specs.Option.{option_map}
use Rattle.svc_base.specs.Calendar.{IsDay, IsReadDay}
use Rattle.svc_types.specs.declared.terms.Terms.{Terms}
use Rattle.svc_types.specs.declared.books.Books.{Books}
use Rattle.svc_types.specs.declared.account.Entry.{Entry}
use Rattle.svc_types.specs.Terms.{IsSound}
use Rattle.svc_types.specs.Live.{live_entries}
use Rattle.svc_spec.specs.Books.{IsAct}
use Rattle.svc_spec.specs.Events.{books_at}

-- a loan's account; a reversal is a pair of the entry's number and of what reversed it
pub record Account : Type 0 where
  pub terms : Terms
  pub entries : List Entry
  pub reversals : List (ℕ × ℕ)
  pub today : ℕ

-- at boarding there is no entry
abbrev pub begun : Terms → ℕ → Account
begun t d = record { terms = t; entries = []; reversals = []; today = d }

-- with one more entry
abbrev pub posted : Entry → Account → Account
posted e a = record a { entries = a.entries ++ e ∷ [] }

-- with one more reversal
abbrev pub reversed_in : ℕ → ℕ → Account → Account
reversed_in number by a = record a { reversals = a.reversals ++ (number, by) ∷ [] }

-- on another business day
abbrev pub advanced_to : ℕ → Account → Account
advanced_to d a = record a { today = d }

-- the entries that count, by day, then number
abbrev pub live_of : Account → List Entry
live_of a = live_entries a.entries a.reversals

-- the books at a day: the refold of the live entries
abbrev pub books_of : Account → ℕ → Books
books_of a d = books_at a.terms (live_of a) d

-- the entry with a number
abbrev pub entry_of : Account → ℕ → Option Entry
entry_of a number = find (λ e. e.number == number) a.entries

-- what reversed the entry with a number
abbrev pub reverser_of : Account → ℕ → Option ℕ
reverser_of a number = option_map (λ r. r.1) (find (λ r. r.0 == number) a.reversals)

-- an account that boarding, entries, reversals and business days can have made
pub record IsAccount (a : Account) : Type 0 where
  pub terms : IsSound a.terms
  pub boarded : IsReadDay a.terms.boarded
  pub after : a.terms.boarded ≤ a.today
  pub few : length a.entries ≤ 4_096
  pub since : All (λ e. a.terms.boarded ≤ e.day) a.entries
  pub until : All (λ e. e.day ≤ a.today) a.entries
  pub exist : All (λ e. IsDay e.day) a.entries
  pub acts : All (λ e. IsAct e.act) a.entries
  pub rising : AllPairs (λ e f. e.number < f.number) a.entries
  pub named : All (λ r. is_some (entry_of a r.0) ≡ true) a.reversals

-- terms with which a loan may be boarded on or before a business day
pub record MayBegin (t : Terms) (today : ℕ) : Type 0 where
  pub terms : IsSound t
  pub boarded : IsReadDay t.boarded
  pub after : t.boarded ≤ today

-- an entry that may follow: its number is above all so far, and its day from boarding to today
pub record MayPost (a : Account) (e : Entry) : Type 0 where
  pub number : All (λ x. x.number < e.number) a.entries
  pub since : a.terms.boarded ≤ e.day
  pub until : e.day ≤ a.today
  pub act : IsAct e.act
