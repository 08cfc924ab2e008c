-- What a line says: of a line that is too long, no more counts than that it is; and no line says two things.
use Rattle.std.proofs.Common.{◌≡◌, ℕ, ◌<◌, List, length, take, arith, sym, ap, subst, ◌∙◌, inl, inr}
use Rattle.std.proofs.lemmas.Bool.{cases_lt}
use Rattle.std.proofs.lemmas.List.{length-take-le, take_all}
use Rattle.serv_line.specs.Lines.{line_of}
use Rattle.serv_line.specs.LineFaults.{IsFault, too_long, misfit}
use Rattle.serv_line.proofs.LineLemmas.{line_short, no_fault, same_line}
use Rattle.serv_line.proofs.FaultLemmas.{one_fault}
use Rattle.serv_machine.specs.Sayings.{Saying, Say, telling}
use Rattle.serv_machine.proofs.SayingLemmas.{say_one}
use Rattle.serv_line.specs.Replies.{text_of_bad}
use Rattle.serv_top.specs.Lines.{Says, in_words, asks, errs}

cut_fault : (line : List ℕ) (place : ℕ) → length (take 513 line) ≡ 513 → 512 < length line → IsFault (take 513 line) place → Says line (telling (text_of_bad place))
cut_fault line place cut long (too_long h) = errs 512 (too_long long)
cut_fault line place cut long (misfit i short f) = absurd (omega arith)

cut_says : (line : List ℕ) (s : Saying) → length (take 513 line) ≡ 513 → 512 < length line → Says (take 513 line) s → Says line s
cut_says line s cut long (asks r is e) =
    let short = line_short r is in
    let n : length (take 513 line) ≡ length (line_of r) = ap length e in
    absurd (omega arith)
cut_says line s cut long (errs place is) = cut_fault line place cut long is

-- the first 513 bytes of a line say what the line says
pub says_whole : (line : List ℕ) (s : Saying) → Says (take 513 line) s → Says line s
says_whole line s says = elim (cases_lt 512 (length line)) [
  | inl long ↦ cut_says line s (length-take-le 513 line (omega arith)) long says
  | inr short ↦ subst (λ l. Says l s) (take_all 513 line (omega arith)) says
]

-- a line says one thing
pub says_one : (line : List ℕ) (s t : Saying) → Says line s → Says line t → s ≡ t
says_one line s t (asks r is e) (asks r' is' e') = ap in_words (same_line r r' is is' (sym e ∙ e'))
says_one line s t (asks r is e) (errs place f) = absurd (no_fault r line place is e f)
says_one line s t (errs place f) (asks r is e) = absurd (no_fault r line place is e f)
says_one line s t (errs place f) (errs place' f') = ap (λ p. telling (text_of_bad p)) (one_fault line place place' f f')

pub lines_one : (lines : List (List ℕ)) (saids others : List Saying) → Say Says lines saids → Say Says lines others → saids ≡ others
lines_one lines saids others p q = say_one Says says_one lines saids others p q
