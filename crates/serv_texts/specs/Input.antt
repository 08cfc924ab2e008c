-- What is taken from the source and written to the sink.
use Rattle.std.specs.Prelude.{◌≡◌, ℕ, ◌^◌, ◌<◌, ◌≤◌, List, length, Option}
use Rattle.std.specs.Io.KnownBytes.{Appends, Consumes}
use Rattle.serv_texts.specs.declared.status.Status.{Status}
use Rattle.serv_texts.specs.declared.status.Status.TheVariants.{ReadFault, TooMuch, OutOfMemory}

-- how many bytes of input are too many
abbrev pub input_limit : ℕ
input_limit = 2 ^ 26

-- this holds of what is taken from the source and written to the sink, where these tell what is left and what is held
pub record Exchanges (P : List ℕ → List ℕ → Type 0) (left left' held held' : Option (List ℕ)) : Type 0 where
  pub taken : List ℕ
  pub written : List ℕ
  pub took : Consumes left left' taken
  pub wrote : Appends held held' written
  pub says : P taken written

-- what is taken of an input that is to be read whole and is not, by the status: a read failed, it has too many bytes, or
-- memory is short
abbrev pub IsUnread : Status → List ℕ → Type 0
IsUnread ReadFault taken = length taken < input_limit
IsUnread (TooMuch n) taken = (n ≡ length taken) × (n ≡ input_limit)
IsUnread OutOfMemory taken = length taken ≤ input_limit
IsUnread other taken = ⊥
