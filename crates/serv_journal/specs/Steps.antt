-- What stands at a place where a record may begin.
use Rattle.std.specs.Prelude.{◌≡◌, ◌≢◌, ℕ, ◌+◌, ◌≤◌, List, ◌∷◌}
use Rattle.serv_journal.specs.declared.format.Version.{Version}
use Rattle.serv_journal.specs.declared.format.Version.TheVariants.{One, Two}
use Rattle.serv_journal.specs.declared.steps.End.{End}
use Rattle.serv_journal.specs.declared.steps.End.TheVariants.{Closed, Marked, Bad}
use Rattle.serv_journal.specs.declared.steps.Step.{Step}
use Rattle.serv_journal.specs.declared.steps.Step.TheVariants.{Record, Ends}
use Rattle.serv_journal.specs.Bytes.{Starts, piece}
use Rattle.serv_journal.specs.Format.{body, head_size, header}
use Rattle.serv_journal.specs.Reading.{IsMark, IsBadEnd}
use Rattle.serv_journal.specs.Windows.{WindowState, Has}

-- a line may have so many bytes
abbrev pub IsLength : ℕ → Type 0
IsLength count = (1 ≤ count) × (count ≤ 512)

pub record IsClosedEnd (version : Version) (commit : ℕ) (tail : List ℕ) : Type 0 where
  pub rest : List ℕ
  pub is : tail ≡ commit ∷ rest
  pub closed : commit ≢ 1
  pub unmarked : version ≡ One → IsMark commit rest → ⊥

pub record IsMarkedEnd (version : Version) (tail : List ℕ) : Type 0 where
  pub one : version ≡ One
  pub mark : ℕ
  pub marked : mark ≢ 0
  pub starts : Starts (mark ∷ header Two) tail

abbrev pub IsEnd : Version → ℕ → List ℕ → End → Type 0
IsEnd version number tail (Closed commit) = IsClosedEnd version commit tail
IsEnd version number tail Marked = IsMarkedEnd version tail
IsEnd version number tail Bad = IsBadEnd version number tail

abbrev pub IsStep : Version → ℕ → List ℕ → Step → Type 0
IsStep version number tail (Record count) =
    Starts (1 ∷ body version number (piece (1 + head_size version) count tail)) tail
IsStep version number tail (Ends end) = IsEnd version number tail end

-- what is known of an end whether the disk tells what it holds or not
abbrev pub EndFits : Version → ℕ → ℕ → End → Type 0
EndFits version place size (Closed commit) = place + 1 ≤ size
EndFits version place size Marked = (version ≡ One) × (place + 9 ≤ size)
EndFits version place size Bad = place ≤ size

abbrev pub StepFits : Version → ℕ → ℕ → Step → Type 0
StepFits version place size (Record count) = IsLength count
    × (place + 1 + head_size version + count ≤ size)
StepFits version place size (Ends end) = EndFits version place size end

-- the window has a record's line
abbrev pub HasLine : Version → ℕ → WindowState → Step → Type 0
HasLine version place window (Record count) = Has window (place + 1 + head_size version) count
HasLine version place window (Ends end) = Unit {0}
