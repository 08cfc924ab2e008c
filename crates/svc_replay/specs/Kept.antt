-- What an implementation of a loan's books keeps: its account, and for how much more it has room.
use Rattle.std.specs.Prelude.{◌≡◌, ◌≢◌, ℕ, ◌+◌, ◌≤◌, ◌<◌, ◌==◌, Option, None, Some, List, length, get_or, map}
use Rattle.std.specs.List.{All, find}
use Rattle.svc_types.specs.declared.books.Books.{Books}
use Rattle.svc_types.specs.declared.account.Entry.{Entry}
use Rattle.svc_spec.specs.Books.{AreBooks}
use Rattle.svc_spec.specs.Events.{events_to}
use Rattle.svc_spec.specs.Accounts.{Account, IsAccount, live_of, books_of, reverser_of}

-- how many entries, reversals and months can be added without memory
pub record Room : Type 0 where
  pub entries : ℕ
  pub reversals : ℕ
  pub months : ℕ

abbrev pub nothing : Room
nothing = record { entries = 0; reversals = 0; months = 0 }

abbrev pub one_entry : Room
one_entry = record { entries = 1; reversals = 0; months = 0 }

abbrev pub one_reversal : Room
one_reversal = record { entries = 0; reversals = 1; months = 0 }

abbrev pub some_months : ℕ → Room
some_months n = record { entries = 0; reversals = 0; months = n }

-- room is lowered by at most what is added
pub record IsLoweredBy (added old new : Room) : Type 0 where
  pub entries : old.entries ≤ new.entries + added.entries
  pub reversals : old.reversals ≤ new.reversals + added.reversals
  pub months : old.months ≤ new.months + added.months

-- an account, and its room
pub record Kept : Type 0 where
  pub account : Account
  pub room : Room

-- what reversed each entry, where it was, as the entries stand
abbrev pub reversers_of : Account → List (Option ℕ)
reversers_of a = map (λ e. reverser_of a e.number) a.entries

-- what holds of the fields of an account: the live entries stand in order, and beside each entry
-- stands what reversed it
pub record IsKept (a : Account) (ordered : List Entry) (by : List (Option ℕ)) : Type 0 where
  pub account : IsAccount a
  pub live : ordered ≡ live_of a
  pub reversed : by ≡ reversers_of a

-- two entries have different numbers
abbrev pub differ : Entry → Entry → Type 0
differ a b = a.number ≢ b.number

-- the place of the entry with a number, where there is one
abbrev pub IsPlaceOf : ℕ → List Entry → Option ℕ → Type 0
IsPlaceOf number entries None = find (λ e. e.number == number) entries ≡ None
IsPlaceOf number entries (Some i) =
    (i < length entries) × ((d : Entry) → (get_or entries i d).number ≡ number)

-- the books now are those of the business day
pub record AreNow (a : Account) (b : Books) : Type 0 where
  pub account : IsAccount a
  pub now : b ≡ books_of a a.today
  pub sound : AreBooks a.terms b

-- nothing happens to a loan after a day, up to the business day
abbrev pub IsQuietAfter : Account → ℕ → Type 0
IsQuietAfter a d = All (λ e. e.day ≤ d) (events_to a.terms (live_of a) a.today)
