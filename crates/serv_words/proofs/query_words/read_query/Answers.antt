use Rattle.std.proofs.Common.{◌∙◌, Some, map, sym, ap}
use Rattle.svc_forms.specs.Values.{text_of_value}
use Rattle.serv_words.proofs.AskLemmas.{first_and_rest, is_spelled, one_query}
use Rattle.serv_words.proofs.query_words.read_query.Goals as goal

pub returns-in_ok-values-in-len1-up-clause-read : goal.returns-in_ok-values-in-len1-up-clause-read
returns-in_ok-values-in-len1-up-clause-read c =
    first_and_rest c.args.words.now _ c.in-len1-up.len_at_least
    ∙ is_spelled _ c.in_ok-question-in-len1-up.question _ c.deref.result.now c.query_of.result (sym c.as_bytes.ensures.value ∙ c.in_ok-question-in-len1-up.ensures.named)
    (c.in_ok-values-in-len1-up.ensures.read ∙ ap (map text_of_value) (sym c.deref.ensures.0)) c.query_of.ensures.form c.query_of.ensures.values

pub returns-in_ok-values-in-len1-up-clause-only : goal.returns-in_ok-values-in-len1-up-clause-only
returns-in_ok-values-in-len1-up-clause-only c = λ q well e.
    ap Some (one_query c.query_of.result q c.query_of.ensures.well well (sym (returns-in_ok-values-in-len1-up-clause-read c) ∙ e))
