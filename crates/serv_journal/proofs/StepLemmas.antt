-- What was read at a place, as a step.
use Rattle.std.proofs.Common.{◌≡◌, ◌≢◌, ℕ, ◌+◌, ◌<◌, ◌≤◌, List, ◌∷◌, ◌++◌, length, get_or, take, drop, sym, ap, subst, ◌∙◌, inr, arith, Option, Some, None, MatchOption}
use Rattle.std.proofs.lemmas.List.{drop_more, drop-drop}
use Rattle.serv_journal.specs.declared.format.Version.{Version}
use Rattle.serv_journal.specs.declared.format.Version.TheVariants.{One, Two}
use Rattle.serv_journal.specs.Bytes.{Starts, piece}
use Rattle.serv_journal.specs.Format.{header, body, two_bytes, head_size}
use Rattle.serv_journal.specs.Reading.{IsMark, IsBadRecord, IsBadEnd, IsBadLine}
use Rattle.serv_journal.specs.Steps.{IsClosedEnd, IsMarkedEnd}

pub tail_is : (s : List ℕ) (place commit : ℕ) → place < length s → commit ≡ get_or s place 0 → drop place s ≡ commit ∷ drop (place + 1) s
tail_is s place commit within is = drop_more s place 0 within ∙ ap (λ b. b ∷ drop (place + 1) s) (sym is)

pub step_closed : (version : Version) (s : List ℕ) (place commit : ℕ) → place < length s → commit ≡ get_or s place 0 → commit ≢ 1
    → (version ≡ One → IsMark commit (drop (place + 1) s) → ⊥) → IsClosedEnd version commit (drop place s)
step_closed version s place commit within is closed unmarked = record { rest = drop (place + 1) s; is = tail_is s place commit within is; closed = closed; unmarked = unmarked }

first_and : (commit : ℕ) (content tail s : List ℕ) → s ≡ commit ∷ tail → Starts content tail → Starts (commit ∷ content) s
first_and commit content tail s is starts = record { tail = starts.tail; is = is ∙ ap (λ t. commit ∷ t) starts.is }

pub step_marked : (version : Version) (s : List ℕ) (place commit : ℕ) → place < length s → commit ≡ get_or s place 0 → version ≡ One → commit ≢ 0
    → Starts (header Two) (drop (place + 1) s) → IsMarkedEnd version (drop place s)
step_marked version s place commit within is one marked starts =
    record { one = one; mark = commit; marked = marked; starts = first_and commit (header Two) (drop (place + 1) s) (drop place s) (tail_is s place commit within is) starts }

pub step_record : (version : Version) (number count : ℕ) (s : List ℕ) (place commit : ℕ) → place < length s → commit ≡ get_or s place 0 → commit ≡ 1
    → Starts (body version number (piece (head_size version) count (drop (place + 1) s))) (drop (place + 1) s)
    → Starts (1 ∷ body version number (piece (1 + head_size version) count (drop place s))) (drop place s)
step_record version number count s place commit within is open_is starts =
    let n : ℕ = head_size version in
    let after : place + 1 + n ≡ place + (1 + n) = omega arith in
    let same : piece n count (drop (place + 1) s) ≡ piece (1 + n) count (drop place s) =
    ap (take count) (drop-drop n (place + 1) s ∙ (ap (λ k. drop k s) after ∙ sym (drop-drop (1 + n) place s))) in
    subst (λ (line : List ℕ). Starts (1 ∷ body version number line) (drop place s)) same
    (first_and 1 (body version number (piece n count (drop (place + 1) s))) (drop (place + 1) s) (drop place s) (tail_is s place 1 within (sym open_is ∙ is)) starts)

pub step_bad : (version : Version) (number : ℕ) (s : List ℕ) (place commit : ℕ) → place < length s → commit ≡ get_or s place 0 → commit ≡ 1
    → IsBadRecord version number (drop (place + 1) s) → IsBadEnd version number (drop place s)
step_bad version number s place commit within is open_is bad = inr (drop (place + 1) s, tail_is s place 1 within (sym open_is ∙ is), bad)

-- a record of version 1, read as its line
pub one_found : (version : Version) (number : ℕ) (rest : List ℕ) (found : Option ℕ) → version ≡ One → (Starts (header Two) rest → ⊥)
    → MatchOption found (IsBadLine rest) (λ count. Starts (two_bytes (length (piece 2 count rest)) ++ piece 2 count rest) rest)
    → MatchOption found (IsBadRecord version number rest) (λ count. Starts (body version number (piece (head_size version) count rest)) rest)
one_found One number rest None one unmarked bad = (unmarked, bad)
one_found One number rest (Some count) one unmarked good = good
one_found Two number rest found one unmarked said = absurd (let e : ⊥ = cc in e)

pub head_least : (version : Version) → 2 ≤ head_size version
head_least One = omega arith
head_least Two = omega arith
