-- The head of a request: how much of a stream is looked at for it, and whether that is a head, is
-- none whatever follows, or waits. A head is one of the grammar of `httparse` (RFC 9112) of at
-- most 8,192 bytes and 64 header lines.
use Rattle.std.specs.Prelude.{◌≡◌, ℕ, zero, suc, ◌-◌, ◌+◌, ◌≤◌, ◌⊎◌, List, [], ◌∷◌, length, take, true, ◌==◌, if◌then◌else◌, Option, Some, None, is_some}
use Rattle.httparse.specs.Grammar.{RequestHead, ReadsRequest, HasNoRequest, NeverHasRequest, MayBecomeRequest, EndsInTarget}
use Rattle.httparse.specs.Pieces.{is_newline}

-- the most bytes of a head, the blank lines before it included
abbrev pub head_limit : ℕ
head_limit = 8192

-- the most header lines of a head
abbrev pub line_limit : ℕ
line_limit = 64

-- the bytes from the first that is neither CR nor LF
unfoldable pub from_request_line : List ℕ → List ℕ
from_request_line [] = []
from_request_line (b ∷ s) = if is_newline b then from_request_line s else b ∷ s

-- what stands after the first n line feeds
unfoldable pub after_lines : ℕ → List ℕ → Option (List ℕ)
after_lines zero s = Some s
after_lines (suc n) [] = None
after_lines (suc n) (b ∷ s) = if b == 10 then after_lines n s else after_lines (suc n) s

-- a line that has begun: its first byte is neither CR nor LF
abbrev pub begun : Option (List ℕ) → Option (List ℕ)
begun None = None
begun (Some []) = None
begun (Some (b ∷ s)) = if is_newline b then None else Some (b ∷ s)

-- the line that comes after so many, and all after it, where it has begun
unfoldable pub line_after : ℕ → List ℕ → Option (List ℕ)
line_after n s = begun (after_lines n (from_request_line s))

-- the 65th header line, and all after it, where it has begun
abbrev pub line_too_many : List ℕ → Option (List ℕ)
line_too_many s = line_after (line_limit + 1) s

-- the bytes before a rest, or all
abbrev pub before : List ℕ → Option (List ℕ) → List ℕ
before s None = s
before s (Some rest) = take (length s - length rest) s

-- the bytes before the line that is too many
abbrev pub few_lines : List ℕ → List ℕ
few_lines s = before s (line_too_many s)

-- the bytes that are looked at
abbrev pub judged : List ℕ → List ℕ
judged s = few_lines (take head_limit s)

-- no byte that follows is looked at
abbrev pub IsClosed : List ℕ → Type 0
IsClosed s = (head_limit ≤ length s) ⊎ (is_some (line_too_many (take head_limit s)) ≡ true)

-- the stream begins with the head
pub record HasHead (s : List ℕ) (h : RequestHead) : Type 0 where
  pub rest : List ℕ
  pub reads : ReadsRequest (judged s) h rest
  pub lines : length h.fields ≤ line_limit

-- no bytes can follow that make it begin with one, and no target waits for its end: status 400
pub record IsRefused (s : List ℕ) : Type 0 where
  pub never : NeverHasRequest (judged s)
  pub ended : ¬ (EndsInTarget (judged s))

-- what is looked at may still become a head: where more is looked at, it is awaited
pub record IsOpen (s : List ℕ) : Type 0 where
  pub none : HasNoRequest (judged s)
  pub may : MayBecomeRequest (judged s)

-- a head that would be too long, or have too many lines: status 431
abbrev pub IsTooLong : List ℕ → Type 0
IsTooLong s = IsClosed s × IsOpen s
