use Rattle.std.proofs.Common.{◌≢◌, ℕ, sym, ◌∙◌}
use Rattle.svc_base.specs.Calendar.{IsReadDay}
use Rattle.svc_base.proofs.TextLemmas.{on_none}
use Rattle.servicing_transfer.specs.StatementTexts.{heading_line, heading_words}
use Rattle.servicing_transfer.specs.Stated.{IsStatedNumber}
use Rattle.servicing_transfer.proofs.LineWords.{no_heading, heading_line_is, day_word, count_word}
use Rattle.servicing_transfer.proofs.reading.read_heading.Goals as goal

pub returns-in_err-day-clause-none : goal.returns-in_err-day-clause-none
unfolding heading_words
returns-in_err-day-clause-none c =
    let none : (day n : ℕ) → IsReadDay day → IsStatedNumber n → c.args.line.now ≢ heading_line day n = λ d n r is e. no_heading c.args.line.now d n is (c.in_err-day.ensures.none _ _) e in
    on_none _ none

pub returns-in_default-clause-none : goal.returns-in_default-clause-none
unfolding heading_words
returns-in_default-clause-none c = λ d n r is e. no_heading c.args.line.now d n is (λ f. c.in_default.ensures.none d r (day_word (sym c.in_ok-day.ensures.found ∙ f))) e

pub returns-in_err-count-clause-none : goal.returns-in_err-count-clause-none
unfolding heading_words
returns-in_err-count-clause-none c =
    let none : (day n : ℕ) → IsReadDay day → IsStatedNumber n → c.args.line.now ≢ heading_line day n = λ d n r is e. no_heading c.args.line.now d n is (λ f. c.in_err-count.ensures.none n is (count_word (sym c.in_ok-day.ensures.found ∙ f))) e in
    on_none _ none

pub returns-clause-read : goal.returns-clause-read
unfolding heading_words
returns-clause-read c =
    let day_is = c.in-Ok.ensures.read in
    let count_is = c.in_ok-count.ensures.read in
    let words = c.in_ok-day.ensures.found in
    heading_line_is c.args.line.now _ _ (words ∙ cc)
