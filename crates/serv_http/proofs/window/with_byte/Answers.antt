use Rattle.std.proofs.Common.{sym, ◌∙◌}
use Rattle.serv_http.proofs.ScanLemmas.{counted-newline, counted-begun, counted-other, counted-feed, counted-full, counted-on}
use Rattle.serv_http.proofs.window.with_byte.Goals as goal

pub returns-then-is_newline : goal.returns-then-is_newline
returns-then-is_newline c = λ s at x.
    counted-newline s c.args.b c.args.lines c.in-Blank.is (sym c.is_newline.ensures ∙ c.if-is_newline.true) x

pub returns-else-is_newline : goal.returns-else-is_newline
returns-else-is_newline c = λ s at x.
    counted-begun s c.args.b c.args.lines c.in-Blank.is (sym c.is_newline.ensures ∙ c.if-is_newline.false) x

pub returns-then-b-ne10 : goal.returns-then-b-ne10
returns-then-b-ne10 c = λ s at x. counted-other s c.args.b c.args.lines c.in-Left.left c.in-Left.is c.if-b-ne10.true x

pub returns-then-left-gt1 : goal.returns-then-left-gt1
returns-then-left-gt1 c = λ s at x.
    counted-feed s c.args.b c.args.lines c.in-Left.left c.in-Left.is c.if-b-ne10.false c.if-left-gt1.true x

pub returns-else-left-gt1 : goal.returns-else-left-gt1
returns-else-left-gt1 c = λ s at x.
    counted-full s c.args.b c.args.lines c.in-Left.left c.args.place c.in-Left.is c.if-b-ne10.false c.if-left-gt1.false at x

pub returns-in-Full : goal.returns-in-Full
returns-in-Full c = λ s at x. counted-on s c.args.b c.args.lines c.in-Full.field-0 c.in-Full.is x
