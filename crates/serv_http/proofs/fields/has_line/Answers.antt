use Rattle.std.proofs.Common.{sym, ◌∙◌}
use Rattle.serv_http.proofs.FieldLemmas.{line-found}
use Rattle.serv_http.proofs.fields.has_line.Goals as goal

pub returns-then-is_line_named : goal.returns-then-is_line_named
returns-then-is_line_named c =
    sym (line-found _ c.args.buf.now c.args.lines.now c.loop-line.line-index _ c.loop-line-test.true
    (sym c.is_line_named.ensures ∙ c.if-is_line_named.true))
