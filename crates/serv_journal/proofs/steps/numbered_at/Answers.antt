use Rattle.std.proofs.Common.{ℕ, drop, inl, inr, ◌∙◌, sym, subst}
use Rattle.std.proofs.lemmas.Result.{IfOk-weaker}
use Rattle.serv_journal.specs.Bytes.{Starts}
use Rattle.serv_journal.specs.Format.{four_bytes}
use Rattle.serv_journal.proofs.ReadingLemmas.{numbered_found, other_number}
use Rattle.serv_journal.proofs.steps.numbered_at.Goals as goal

pub returns-then-from-number-clause-found : goal.returns-then-from-number-clause-found
returns-then-from-number-clause-found g c = λ s is.
    inr (inl (other_number (drop c.args.place s) c.in_ok-found.found c.args.number (λ same. c.if-from-number.true (c.from.ensures ∙ same)) (c.in_ok-found.ensures.number s is)))

pub returns-clause-found : goal.returns-clause-found
returns-clause-found g c =
    IfOk-weaker c.line_at.result _ _
    (λ found said s is. numbered_found s c.args.place c.args.number found
    (subst (λ (n : ℕ). Starts (four_bytes n) (drop c.args.place s)) (sym c.from.ensures ∙ c.if-from-number.false) (c.in_ok-found.ensures.number s is))
    (said s (c.four_at.ensures.reading.stays.told ∙ is)))
    c.line_at.ensures.found
