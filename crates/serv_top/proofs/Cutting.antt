-- A stream that is cut from its front, byte by byte, and the lines that the definitions find from its end.
use Rattle.std.proofs.Common.{◌≡◌, ℕ, List, [], ◌∷◌, ◌++◌, refl, sym, ap, ◌∙◌, append-nil, append_assoc}
use Rattle.std.specs.Prelude.{◌==◌, if◌then◌else◌, true, false}
use Rattle.serv_top.specs.Lines.{onto_first, onto_ended, lines_of, ended_lines, open_from, open_line}

-- the lines that end, where the stream goes on from this piece of a line
abbrev pub ended_from : List ℕ → List ℕ → List (List ℕ)
ended_from line [] = []
ended_from line (b ∷ bytes) = if b == 10 then line ∷ ended_from [] bytes else ended_from (line ++ b ∷ []) bytes

-- a last line that no line feed ended
abbrev pub unended : List ℕ → List (List ℕ)
unended [] = []
unended (b ∷ line) = (b ∷ line) ∷ []

-- a piece in front of the first line that ends
abbrev pub in_front : List ℕ → List (List ℕ) → List (List ℕ)
in_front piece [] = []
in_front piece (line ∷ lines) = (piece ++ line) ∷ lines

-- one more byte
pub open_from-push : (line bytes : List ℕ) (b : ℕ) → open_from line (bytes ++ b ∷ []) ≡ (if b == 10 then [] else open_from line bytes ++ b ∷ [])
open_from-push line [] b = refl
open_from-push line (c ∷ bytes) b = elim (c == 10) as (λ t. (if t then open_from [] (bytes ++ b ∷ []) else open_from (line ++ c ∷ []) (bytes ++ b ∷ [])) ≡ (if b == 10 then [] else (if t then open_from [] bytes else open_from (line ++ c ∷ []) bytes) ++ b ∷ []))
    [ true ↦ open_from-push [] bytes b | false ↦ open_from-push (line ++ c ∷ []) bytes b ]

pub ended_from-push : (line bytes : List ℕ) (b : ℕ) → ended_from line (bytes ++ b ∷ []) ≡ (if b == 10 then ended_from line bytes ++ open_from line bytes ∷ [] else ended_from line bytes)
ended_from-push line [] b = refl
ended_from-push line (c ∷ bytes) b = elim (c == 10) as (λ t. (if t then line ∷ ended_from [] (bytes ++ b ∷ []) else ended_from (line ++ c ∷ []) (bytes ++ b ∷ []))
    ≡ (if b == 10 then (if t then line ∷ ended_from [] bytes else ended_from (line ++ c ∷ []) bytes) ++ (if t then open_from [] bytes else open_from (line ++ c ∷ []) bytes) ∷ [] else (if t then line ∷ ended_from [] bytes else ended_from (line ++ c ∷ []) bytes))) [
      | true ↦ ap (λ lines. line ∷ lines) (ended_from-push [] bytes b) ∙ (elim (b == 10) as (λ t. line ∷ (if t then ended_from [] bytes ++ open_from [] bytes ∷ [] else ended_from [] bytes) ≡ (if t then (line ∷ ended_from [] bytes) ++ open_from [] bytes ∷ [] else line ∷ ended_from [] bytes)) [ true ↦ refl | false ↦ refl ])
      | false ↦ ended_from-push (line ++ c ∷ []) bytes b
    ]

-- the two ways to cut agree
in_front-onto : (piece : List ℕ) (b : ℕ) (lines : List (List ℕ)) → in_front piece (onto_ended b lines) ≡ in_front (piece ++ b ∷ []) lines
in_front-onto piece b [] = refl
in_front-onto piece b (line ∷ lines) = ap (λ first. first ∷ lines) (sym (append_assoc piece (b ∷ []) line))

in_front-nil : (lines : List (List ℕ)) → in_front [] lines ≡ lines
in_front-nil [] = refl
in_front-nil (line ∷ lines) = refl

ended_from-in_front : (line bytes : List ℕ) → ended_from line bytes ≡ in_front line (ended_lines bytes)
ended_from-in_front line [] = refl
ended_from-in_front line (b ∷ bytes) = elim (b == 10) as (λ t. (if t then line ∷ ended_from [] bytes else ended_from (line ++ b ∷ []) bytes) ≡ in_front line (if t then [] ∷ ended_lines bytes else onto_ended b (ended_lines bytes))) [
  | true ↦ ap (λ lines. line ∷ lines) (ended_from-in_front [] bytes ∙ in_front-nil (ended_lines bytes)) ∙ ap (λ first. first ∷ ended_lines bytes) (sym (append-nil line))
  | false ↦ ended_from-in_front (line ++ b ∷ []) bytes ∙ sym (in_front-onto line b (ended_lines bytes))
]

pub ended_from_nil : (bytes : List ℕ) → ended_from [] bytes ≡ ended_lines bytes
ended_from_nil bytes = ended_from-in_front [] bytes ∙ in_front-nil (ended_lines bytes)

-- a piece in front of the first line; where there is no line, it is one if it is not empty
abbrev over_first : List ℕ → List (List ℕ) → List (List ℕ)
over_first piece [] = unended piece
over_first piece (line ∷ lines) = (piece ++ line) ∷ lines

unended-push : (piece : List ℕ) (b : ℕ) → unended (piece ++ b ∷ []) ≡ (piece ++ b ∷ []) ∷ []
unended-push [] b = refl
unended-push (c ∷ piece) b = refl

over_first-onto : (piece : List ℕ) (b : ℕ) (lines : List (List ℕ)) → over_first piece (onto_first b lines) ≡ over_first (piece ++ b ∷ []) lines
over_first-onto piece b [] = sym (unended-push piece b)
over_first-onto piece b (line ∷ lines) = ap (λ first. first ∷ lines) (sym (append_assoc piece (b ∷ []) line))

over_first-nil : (lines : List (List ℕ)) → over_first [] lines ≡ lines
over_first-nil [] = refl
over_first-nil (line ∷ lines) = refl

lines-over_first : (line bytes : List ℕ) → ended_from line bytes ++ unended (open_from line bytes) ≡ over_first line (lines_of bytes)
lines-over_first line [] = refl
lines-over_first line (b ∷ bytes) = elim (b == 10) as (λ t. (if t then line ∷ ended_from [] bytes else ended_from (line ++ b ∷ []) bytes) ++ unended (if t then open_from [] bytes else open_from (line ++ b ∷ []) bytes)
    ≡ over_first line (if t then [] ∷ lines_of bytes else onto_first b (lines_of bytes))) [
      | true ↦ ap (λ lines. line ∷ lines) (lines-over_first [] bytes ∙ over_first-nil (lines_of bytes)) ∙ ap (λ first. first ∷ lines_of bytes) (sym (append-nil line))
      | false ↦ lines-over_first (line ++ b ∷ []) bytes ∙ sym (over_first-onto line b (lines_of bytes))
    ]

-- all lines are those that end and the last piece
pub lines_of-from : (bytes : List ℕ) → lines_of bytes ≡ ended_lines bytes ++ unended (open_line bytes)
lines_of-from bytes = sym (over_first-nil (lines_of bytes)) ∙ sym (lines-over_first [] bytes) ∙ ap (λ lines. lines ++ unended (open_from [] bytes)) (ended_from_nil bytes)

pub ended_lines-push : (bytes : List ℕ) (b : ℕ) → ended_lines (bytes ++ b ∷ []) ≡ (if b == 10 then ended_lines bytes ++ open_from [] bytes ∷ [] else ended_lines bytes)
ended_lines-push bytes b = sym (ended_from_nil (bytes ++ b ∷ [])) ∙ ended_from-push [] bytes b
    ∙ ap (λ lines. if b == 10 then lines ++ open_from [] bytes ∷ [] else lines) (ended_from_nil bytes)

ended_from-append : (line bytes more : List ℕ) → ended_from line (bytes ++ more) ≡ ended_from line bytes ++ ended_from (open_from line bytes) more
ended_from-append line [] more = refl
ended_from-append line (b ∷ bytes) more = elim (b == 10) as (λ t. (if t then line ∷ ended_from [] (bytes ++ more) else ended_from (line ++ b ∷ []) (bytes ++ more))
    ≡ (if t then line ∷ ended_from [] bytes else ended_from (line ++ b ∷ []) bytes) ++ ended_from (if t then open_from [] bytes else open_from (line ++ b ∷ []) bytes) more)
    [ true ↦ ap (λ lines. line ∷ lines) (ended_from-append [] bytes more) | false ↦ ended_from-append (line ++ b ∷ []) bytes more ]

-- bytes that come later end further lines
pub ended_lines-append : (bytes more : List ℕ) → ended_lines (bytes ++ more) ≡ ended_lines bytes ++ ended_from (open_line bytes) more
ended_lines-append bytes more = sym (ended_from_nil (bytes ++ more)) ∙ ended_from-append [] bytes more
    ∙ ap (λ lines. lines ++ ended_from (open_line bytes) more) (ended_from_nil bytes)
