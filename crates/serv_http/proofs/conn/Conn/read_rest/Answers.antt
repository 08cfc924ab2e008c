use Rattle.std.proofs.Common.{◌≡◌, ◌-◌, ◌++◌, ◌∙◌, List, ℕ, length, take, drop, sym, ap, subst, append_assoc}
use Rattle.std.proofs.lemmas.List.{take_rest, take-append-drop}
use Rattle.serv_http.specs.Streams.{IsAwaited}
use Rattle.serv_http.specs.Conns.{IsStep}
use Rattle.serv_http.proofs.StepLemmas.{step-shift}
use Rattle.serv_http.proofs.conn.Conn.read_rest.Goals as goal

pub returns-in-Ok-clause-ok : goal.returns-in-Ok-clause-ok
returns-in-Ok-clause-ok c = λ s l b.
    let piece : List ℕ = c.args.piece.now in
    let used : ℕ = c.args.used in
    step-shift s piece c.read_body.new.self used c.in-Ok.more c.in-Ok.ask l
    (subst (λ (t : List ℕ). IsStep (s ++ take used piece) t c.read_body.new.self c.in-Ok.more c.in-Ok.ask) (take_rest piece used)
    (c.in-Ok.ensures.ok (s ++ take used piece) b))

pub returns-in-Err-clause-err : goal.returns-in-Err-clause-err
returns-in-Err-clause-err c = λ s l b awaited.
    let piece : List ℕ = c.args.piece.now in
    let used : ℕ = c.args.used in
    let whole : s ++ piece ≡ (s ++ take used piece) ++ take (length piece - used) (drop used piece) =
    ap (λ (t : List ℕ). s ++ t) (sym (take-append-drop used piece))
    ∙ sym (append_assoc s (take used piece) (drop used piece))
    ∙ ap (λ (t : List ℕ). (s ++ take used piece) ++ t) (sym (take_rest piece used)) in
    c.in-Err.ensures.err (s ++ take used piece) b (subst (λ (t : List ℕ). IsAwaited t) whole awaited)
