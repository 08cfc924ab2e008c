use Rattle.std.proofs.Common.{◌≢◌, ℕ, List, ◌∷◌, ap, ◌∙◌}
use Rattle.std.specs.Prelude.{codes}
use Rattle.svc_base.proofs.TextLemmas.{on_none}
use Rattle.serv_line.specs.Lines.{words_of, words_left}
use Rattle.servicing_transfer.specs.StatementReading.{words_with}
use Rattle.servicing_transfer.proofs.LineWords.{tail2, some_words}
use Rattle.servicing_transfer.proofs.reading.heading_words.Goals as goal

pub returns-in_err-day-clause-none : goal.returns-in_err-day-clause-none
returns-in_err-day-clause-none c =
    let none : (day count : List ℕ) → words_of c.args.line.now ≢ words_with day count = λ d n e. c.in_err-day.ensures.none _ _ e in
    on_none _ none

pub returns-in_err-count-clause-none : goal.returns-in_err-count-clause-none
returns-in_err-count-clause-none c =
    let none : (day count : List ℕ) → words_of c.args.line.now ≢ words_with day count = λ d n e. c.in_err-count.ensures.none _ _ (tail2 c.in_ok-day.ensures.found e) in
    on_none _ none

pub returns-in-Some-clause-none : goal.returns-in-Some-clause-none
returns-in-Some-clause-none c = λ d n e. some_words c.in_ok-count.rest _ c.in-Some.is (tail2 c.in_ok-count.ensures.found (tail2 c.in_ok-day.ensures.found e))

pub returns-in-None-clause-found : goal.returns-in-None-clause-found
returns-in-None-clause-found c =
    c.in_ok-day.ensures.found ∙ ap (λ r. codes "statement" ∷ c.in_ok-day.day.now ∷ r)
    (c.in_ok-count.ensures.found ∙ ap (λ r. codes "loans" ∷ c.in_ok-count.count.now ∷ r) (ap words_left c.in-None.is))
