use Rattle.std.proofs.Common.{◌≡◌, refl, subst, rules, tests}
use Rattle.std.specs.Str.{str_eq_ignore_ascii_case}
use Rattle.std.proofs.lemmas.Str.Ascii.{trim_ascii_is}
use Rattle.serv_http.specs.Fields.{after_blanks}
use Rattle.serv_http.proofs.fields.is_word.Goals as goal

pub returns : goal.returns
returns c =
    subst (λ t. c.eq_ignore_ascii_case.result ≡ str_eq_ignore_ascii_case t c.args.word.now)
    (trim_ascii_is c.args.text.now c.trim_ascii.result.now (after_blanks c.args.text.now) refl c.trim_ascii.ensures.value)
    (search (rules, tests))
