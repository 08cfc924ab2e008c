use Rattle.std.proofs.Common.{sym, ◌∙◌, arith}
use Rattle.serv_http.proofs.ScanLemmas.{many-none, many-end, many-newline, many-begun, full-within}
use Rattle.serv_http.proofs.window.too_many.Goals as goal

pub returns-in_default : goal.returns-in_default
returns-in_default c = many-none c.args.buf.now c.args.lines c.requires (λ at e. c.in_default.not-Full at e)

pub returns-then-at-buf : goal.returns-then-at-buf
returns-then-at-buf c = many-end c.args.buf.now c.args.lines c.in-Full.at c.in-Full.is c.requires (omega arith)

pub returns-then-is_newline : goal.returns-then-is_newline
returns-then-is_newline c =
    many-newline c.args.buf.now c.args.lines c.in-Full.at c.in-Full.is c.requires
    (let a = c.if-at-buf.false in let b = full-within c.args.buf.now c.args.lines c.in-Full.at c.in-Full.is c.requires in omega arith)
    (sym c.is_newline.ensures ∙ c.if-is_newline.true)

pub returns-else-is_newline : goal.returns-else-is_newline
returns-else-is_newline c =
    let inside = full-within c.args.buf.now c.args.lines c.in-Full.at c.in-Full.is c.requires in (
      inside,
      many-begun c.args.buf.now c.args.lines c.in-Full.at c.in-Full.is c.requires
          (let a = c.if-at-buf.false in omega arith) (sym c.is_newline.ensures ∙ c.if-is_newline.false),
    )
