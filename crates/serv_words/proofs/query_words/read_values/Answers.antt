use Rattle.std.proofs.Common.{◌+◌, subst, sym, arith}
use Rattle.serv_words.proofs.AskLemmas.{Reads, misread, reads_one, reads_all}
use Rattle.serv_words.proofs.query_words.read_values.Goals as goal

pub returns-in_err-read_value-clause-none : goal.returns-in_err-read_value-clause-none
returns-in_err-read_value-clause-none c =
    rw c.from_residual.ensures (λ values are many. misread c.args.fields.now c.args.words.now c.loop-at.at _ _ c.kind.result c.as_bytes.result.now (omega (arith, c.if-fields-words.false, c.loop-at-test.true))
    c.loop-at-test.true c.kind.ensures c.as_bytes.ensures.value c.in_err-read_value.ensures.none values are)

pub loop-at-preserved : goal.loop-at-preserved
loop-at-preserved c =
    subst (Reads c.args.fields.now c.args.words.now (c.loop-at.at + 1)) (sym c.push.ensures.items)
    (reads_one c.args.fields.now c.args.words.now c.loop-at.at c.loop-at.values.items _ _ c.kind.result c.as_bytes.result.now c.in_ok-read_value.field-0 (omega (arith, c.if-fields-words.false, c.loop-at-test.true))
    c.loop-at-test.true c.kind.ensures c.as_bytes.ensures.value c.in_ok-read_value.ensures.kind c.in_ok-read_value.ensures.read c.loop-at.invariant)

pub returns-clause-values : goal.returns-clause-values
returns-clause-values c = (reads_all c.args.fields.now c.args.words.now c.loop-at.at c.loop-at.values.items c.if-fields-words.false c.loop-at-test.false c.loop-at.invariant).0
