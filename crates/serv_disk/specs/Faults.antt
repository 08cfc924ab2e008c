-- When a call of an object of the outside may fail: only where its count of faults rose in that call.
use Rattle.std.specs.Prelude.{◌≡◌, ℕ, ◌-◌, ◌^◌, ◌<◌, ◌≤◌, ◌⊎◌, List, ◌++◌, length, OnErr, Result, Option}
use Rattle.std.specs.Io.KnownBytes.{Appends}

-- the count rose, or stands at the last value of its type
abbrev pub HasRisen : ℕ → ℕ → Type 0
HasRisen old new = (old < new) ⊎ (old ≡ 2 ^ 64 - 1)

-- the count never falls, and a failure comes only where it rose
pub record HasCause {T E : Type 0} (old new : ℕ) (result : Result T E) : Type 0 where
  pub later : old ≤ new
  pub failed : OnErr result (HasRisen old new)

-- a part of a text that does not reach its end
pub record IsProperPrefix (part whole : List ℕ) : Type 0 where
  pub rest : List ℕ
  pub some : 0 < length rest
  pub joined : whole ≡ part ++ rest

-- of a text a part is written that does not reach its end
pub record AppendsPart (held held' : Option (List ℕ)) (text : List ℕ) : Type 0 where
  pub part : List ℕ
  pub wrote : Appends held held' part
  pub partial : IsProperPrefix part text
