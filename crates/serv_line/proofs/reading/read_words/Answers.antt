use Rattle.std.proofs.Common.{◌≢◌, ℕ, List, subst, sym, ap, ◌∙◌, inl, inr}
use Rattle.std.specs.Prelude.{length, codes}
use Rattle.std.specs.Cmp.Lexicographic.{other_text}
use Rattle.svc_types.specs.Keys.{IsKey}
use Rattle.serv_line.specs.Lines.{joined, words_left}
use Rattle.serv_line.specs.LineFaults.{Fits, IsLeftAt, IsOpening}
use Rattle.serv_line.proofs.WordLemmas.{split_joined}
use Rattle.serv_line.proofs.FaultLemmas.{opening_misfit}
use Rattle.serv_line.proofs.reading.read_words.Goals as goal

no_opening : (first : List ℕ) → first ≢ codes "?" → (IsKey first → ⊥) → IsOpening first → ⊥
no_opening first a b (inl e) = a e
no_opening first a b (inr k) = b k

pub returns-in_default-clause-fault : goal.returns-in_default-clause-fault
returns-in_default-clause-fault c =
    let P : List (List ℕ) → Type 0 = λ ws. IsLeftAt (Fits ws) ws (length c.args.line.now) in
    let bytes = ap length (sym (split_joined c.args.line.now) ∙ ap joined c.next_word.ensures) in
    subst P (sym c.next_word.ensures) (opening_misfit c.next_word.result.0.now (words_left c.next_word.result.1) (length c.args.line.now)
    (no_opening c.next_word.result.0.now (λ e. other_text c.next_word.result.0.now c.as_slice.result.now c.if-eq.ensures (e ∙ sym c.as_slice.ensures)) c.in_default.ensures) bytes)
