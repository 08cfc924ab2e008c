-- The bytes of a journal: a header, records, and one closed commit byte.
use Rattle.std.specs.Prelude.{◌≡◌, ◌≢◌, ◌⊎◌, ℕ, ◌+◌, ◌/◌, ◌%◌, ◌≤◌, List, [], ◌∷◌, ◌++◌, length, take, nat_lt, if◌then◌else◌}
use Rattle.serv_journal.specs.declared.format.Version.{Version}
use Rattle.serv_journal.specs.declared.format.Version.TheVariants.{One, Two}

-- the texts MSRVJ001 and MSRVJ002
unfoldable pub header : Version → List ℕ
header One = 77 ∷ 83 ∷ 82 ∷ 86 ∷ 74 ∷ 48 ∷ 48 ∷ 49 ∷ []
header Two = 77 ∷ 83 ∷ 82 ∷ 86 ∷ 74 ∷ 48 ∷ 48 ∷ 50 ∷ []

abbrev pub version_number : Version → ℕ
version_number One = 1
version_number Two = 2

-- a number below 2^16, and one below 2^32, the high byte first
unfoldable pub two_bytes : ℕ → List ℕ
two_bytes n = (n / 256) ∷ (n % 256) ∷ []

unfoldable pub four_bytes : ℕ → List ℕ
four_bytes n = (n / 256 / 256 / 256) ∷ (n / 256 / 256 % 256) ∷ (n / 256 % 256) ∷ (n % 256) ∷ []

-- a line has 1 to 512 bytes
pub record IsLine (line : List ℕ) : Type 0 where
  pub some : 1 ≤ length line
  pub fits : length line ≤ 512

abbrev pub AreLines : List (List ℕ) → Type 0
AreLines [] = Unit {0}
AreLines (line ∷ lines) = IsLine line × AreLines lines

-- what stands after the commit byte of a record: in version 2 its number, then the length and the line
abbrev pub body : Version → ℕ → List ℕ → List ℕ
body One number line = two_bytes (length line) ++ line
body Two number line = four_bytes number ++ two_bytes (length line) ++ line

-- records with these lines, of which the first has this number, each after an open commit byte
abbrev pub records : Version → ℕ → List (List ℕ) → List ℕ
records version number [] = []
records version number (line ∷ lines) = 1 ∷ (body version number line ++ records version (number + 1) lines)

-- how many bytes of a record stand between its commit byte and its line
abbrev pub head_size : Version → ℕ
head_size One = 2
head_size Two = 6

-- after which bytes the records stand, and in which version
pub record Form : Type 0 where
  pub front : List ℕ
  pub version : Version

-- a part of version 1, and the header of version 2 after any commit byte but 0
pub record IsUpgraded (front : List ℕ) : Type 0 where
  pub lines : List (List ℕ)
  pub mark : ℕ
  pub fit : AreLines lines
  pub marked : mark ≢ 0
  pub is : front ≡ header One ++ records One 1 lines ++ mark ∷ header Two

abbrev pub IsFront : Version → List ℕ → Type 0
IsFront One front = front ≡ header One
IsFront Two front = (front ≡ header Two) ⊎ IsUpgraded front

abbrev pub IsForm : Form → Type 0
IsForm form = IsFront form.version form.front

-- all bytes before the commit byte that comes after the records
unfoldable pub base : Form → List (List ℕ) → List ℕ
base form lines = form.front ++ records form.version 1 lines

-- a journal that `init` made
abbrev pub new_form : Form
new_form = record { front = header Two; version = Two }

-- after an upgrade the records stand after the part of version 1
abbrev pub upgraded_form : Form → List (List ℕ) → Form
upgraded_form form lines = record { front = base form lines ++ 2 ∷ header Two; version = Two }

-- the commit byte after so many of all records: open where a record comes after it
abbrev pub commit_at : ℕ → ℕ → ℕ
commit_at i count = if nat_lt i count then 1 else 0

-- the records of version 2 up to one of them, as an upgrade writes them after a part of version 1
abbrev pub laid : List (List ℕ) → ℕ → List ℕ
laid lines i = header Two ++ records Two 1 (take i lines) ++ commit_at i (length lines) ∷ []

-- all of them
abbrev pub rewritten : List (List ℕ) → List ℕ
rewritten lines = header Two ++ records Two 1 lines ++ 0 ∷ []
