-- How a stream of bytes is cut into lines, at line feeds, and what a line says.
use Rattle.std.specs.Prelude.{◌≡◌, ℕ, ◌==◌, ⊤, false, List, [], ◌∷◌, ◌++◌, if◌then◌else◌}
use Rattle.svc_types.specs.declared.requests.Request.{Request}
use Rattle.serv_top.specs.declared.said.Said.{Said}
use Rattle.serv_top.specs.declared.said.Said.TheVariants.{Asks, Faulty, Unfit}
use Rattle.svc_types.specs.Requests.{IsRequest}
use Rattle.serv_line.specs.Lines.{line_of}
use Rattle.serv_line.specs.LineFaults.{IsFault}
use Rattle.serv_line.specs.Replies.{text_of_bad}
use Rattle.serv_rows.specs.Texts.{text_of_bad_row}
use Rattle.serv_machine.specs.Verdicts.{reply_to_request}
use Rattle.serv_machine.specs.Sayings.{Saying, asking, telling}

-- a byte in front of the first line; where there is no line, the byte is one, and has no line feed yet
abbrev pub onto_first : ℕ → List (List ℕ) → List (List ℕ)
onto_first b [] = (b ∷ []) ∷ []
onto_first b (line ∷ lines) = (b ∷ line) ∷ lines

-- a byte in front of the first line that a line feed ends
abbrev pub onto_ended : ℕ → List (List ℕ) → List (List ℕ)
onto_ended b [] = []
onto_ended b (line ∷ lines) = (b ∷ line) ∷ lines

-- the lines of a stream: the pieces between line feeds, and the last piece where it is not empty
abbrev pub lines_of : List ℕ → List (List ℕ)
lines_of [] = []
lines_of (b ∷ bytes) = if b == 10 then [] ∷ lines_of bytes else onto_first b (lines_of bytes)

-- the lines that a line feed ended
abbrev pub ended_lines : List ℕ → List (List ℕ)
ended_lines [] = []
ended_lines (b ∷ bytes) = if b == 10 then [] ∷ ended_lines bytes else onto_ended b (ended_lines bytes)

-- what stands behind the last line feed, where these bytes stand behind a piece that has none
abbrev pub open_from : List ℕ → List ℕ → List ℕ
open_from piece [] = piece
open_from piece (b ∷ bytes) = if b == 10 then open_from [] bytes else open_from (piece ++ b ∷ []) bytes

-- what stands behind the last line feed
abbrev pub open_line : List ℕ → List ℕ
open_line bytes = open_from [] bytes

-- bytes without a line feed
abbrev pub IsPlain : List ℕ → Type 0
IsPlain [] = ⊤
IsPlain (b ∷ bytes) = ((b == 10) ≡ false) × IsPlain bytes

-- ---- what a line, or a row of a file, says

-- a request is asked in words: its reply is a line, or some
abbrev pub in_words : Request → Saying
in_words r = asking r (λ h. reply_to_request h r)

abbrev pub saying_of : Said → Saying
saying_of (Asks r) = in_words r
saying_of (Faulty place) = telling (text_of_bad place)
saying_of (Unfit number column) = telling (text_of_bad_row number column)

-- a line asks a request exactly where it is that request's line; any other line has a fault
pub data Says (line : List ℕ) : Saying → Type 0 where
  asks : (r : Request) → IsRequest r → line ≡ line_of r → Says line (in_words r)
  errs : (place : ℕ) → IsFault line place → Says line (telling (text_of_bad place))

-- what it asks is of a form that can be asked
abbrev pub IsFormed : Said → Type 0
IsFormed (Asks r) = IsRequest r
IsFormed (Faulty place) = ⊤
IsFormed (Unfit number column) = ⊤
