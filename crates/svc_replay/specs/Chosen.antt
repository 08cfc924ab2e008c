-- Entries that are chosen by their places among others.
use Rattle.std.specs.Prelude.{ℕ, ◌<◌, Bool, false, List, [], ◌∷◌, length, slice_get, Option, None, Some}
use Rattle.std.specs.List.{All}
use Rattle.std.specs.Option.{option_map_or}
use Rattle.svc_types.specs.declared.account.Entry.{Entry}

-- an entry, where there is one, before others
abbrev pub with_first : Option Entry → List Entry → List Entry
with_first None es = es
with_first (Some e) es = e ∷ es

-- the entries at some places, in the order of these
unfoldable pub chosen : List Entry → List ℕ → List Entry
chosen es [] = []
chosen es (k ∷ ks) = with_first (slice_get es k) (chosen es ks)

-- at each place stands an entry
abbrev pub AreWithin : List Entry → List ℕ → Type 0
AreWithin es ks = All (λ k. k < length es) ks

-- whether an entry stands at a place and passes a test
abbrev pub passes : (Entry → Bool) → List Entry → ℕ → Bool
passes p es k = option_map_or p (slice_get es k) false

-- all entries, some of them in another order, and for how many more there is room
pub record Ordered : Type 0 where
  pub all : List Entry
  pub live : List Entry
  pub room : ℕ
