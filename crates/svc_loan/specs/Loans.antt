-- All loans that are kept, by rising number.
use Rattle.std.specs.Prelude.{◌≡◌, ℕ, ◌+◌, ◌≤◌, ◌<◌, ◌==◌, nat_lt, nat_le, Bool, List, [], ◌∷◌, map, length, min, get_or, Option, Some, None, if◌then◌else◌, MatchOption, ℤ, ◌+ℤ◌}
use Rattle.std.specs.List.{All, AllPairs, find}
use Rattle.svc_base.specs.Calendar.{month_of}
use Rattle.svc_spec.specs.Accounts.{Account, advanced_to}
use Rattle.svc_world.specs.Held.{Held, boarded_month}
use Rattle.svc_world.specs.Refusals.{least_boarded}
use Rattle.svc_loan.specs.declared.place.Place.{Place}
use Rattle.svc_loan.specs.Kept.{KeptLoan, IsAhead}

-- loans, and for how many more there is room
pub record KeptLoans : Type 0 where
  pub loans : List KeptLoan
  pub room : ℕ

-- what is held of each, how many months of each are closed, and what was remitted for each
abbrev pub held_in : List KeptLoan → List Held
held_in ks = map (λ (k : KeptLoan). k.held) ks

abbrev pub closed_in : List KeptLoan → List ℕ
closed_in ks = map (λ (k : KeptLoan). k.closed) ks

abbrev pub remitted_in : List KeptLoan → List ℤ
remitted_in ks = map (λ (k : KeptLoan). k.remitted) ks

-- the numbers of loans rise
abbrev pub Rise : List KeptLoan → Type 0
Rise ks = AllPairs (λ (j k : KeptLoan). j.held.id < k.held.id) ks

-- the first month in which a loan was boarded
abbrev pub first_boarded : List Held → Option ℕ
first_boarded [] = None
first_boarded (l ∷ ls) = Some (least_boarded (boarded_month l) ls)

-- the earlier of two months, of which the first may not be there
abbrev pub earlier_of : Option ℕ → ℕ → ℕ
earlier_of None month = month
earlier_of (Some first) month = min first month

-- the numbers of loans rise, each has room for business days up to a month and for so many closed months, and the
-- first boarded month is kept
pub record AreLoans (until closings : ℕ) (month : Option ℕ) (ks : List KeptLoan) : Type 0 where
  pub rise : Rise ks
  pub ahead : All (IsAhead until closings) ks
  pub first : month ≡ first_boarded (held_in ks)

abbrev pub is_numbered : ℕ → KeptLoan → Bool
is_numbered id k = k.held.id == id

-- the loan with a number
abbrev pub find_kept : ℕ → List KeptLoan → Option KeptLoan
find_kept id ks = find (is_numbered id) ks

-- the loan with a number is there, and something holds of it
abbrev pub OfLoan : ℕ → List KeptLoan → (KeptLoan → Type 0) → Type 0
OfLoan id ks P = MatchOption (find_kept id ks) ⊥ P

-- loans by rising number, with one more
abbrev pub with_kept : KeptLoan → List KeptLoan → List KeptLoan
with_kept k [] = k ∷ []
with_kept k (j ∷ js) = if nat_lt k.held.id j.held.id then k ∷ j ∷ js else j ∷ with_kept k js

-- the place of the loan with a number, where it is there
abbrev pub IsPlaceIn : ℕ → List KeptLoan → Option ℕ → Type 0
IsPlaceIn id ks None = find_kept id ks ≡ None
IsPlaceIn id ks (Some i) = (i < length ks) × ((d : KeptLoan) → find_kept id ks ≡ Some (get_or ks i d))

-- the loan with a place's number stands there
abbrev pub IsThere : Place → List KeptLoan → Type 0
IsThere place ks = IsPlaceIn place.id ks (Some place.index)

-- what is found by a number: the place of its loan, and nothing where no loan has it
abbrev pub IsFound : ℕ → List KeptLoan → Option Place → Type 0
IsFound id ks None = find_kept id ks ≡ None
IsFound id ks (Some place) = (place.id ≡ id) × IsThere place ks

-- what another business day costs for a loan: the cost of the old day's month
abbrev pub advance_cost : (Account → ℕ → ℕ) → ℕ → KeptLoan → ℕ
advance_cost cost today k = cost (advanced_to today k.held.account) (month_of k.held.account.today)

-- where a loan was boarded by a month, that month is the one after its last closed one, it has ended, and there
-- is room to close it
abbrev pub MayCloseMonth : ℕ → KeptLoan → Type 0
MayCloseMonth month k =
    boarded_month k.held ≤ month →
    (boarded_month k.held + k.closed ≡ month) × (month < month_of k.held.account.today) × (1 ≤ k.room.closings)

-- how many months of a loan are closed after that month was
abbrev pub closed_by : ℕ → KeptLoan → ℕ
closed_by month k = if nat_le (boarded_month k.held) month then k.closed + 1 else k.closed

-- what closing the month costs for a loan
abbrev pub close_cost : (Account → ℕ → ℕ) → ℕ → KeptLoan → ℕ
close_cost cost month k = if nat_le (boarded_month k.held) month then cost k.held.account month else 0

-- what was remitted for a loan after some more was, for the one with a number
abbrev pub remitted_by : ℕ → ℤ → KeptLoan → ℤ
remitted_by id cents k = if k.held.id == id then k.remitted +ℤ cents else k.remitted
