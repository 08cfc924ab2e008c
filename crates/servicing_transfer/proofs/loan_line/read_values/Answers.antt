use Rattle.std.proofs.Common.{◌+◌, ◌≤◌, List, length, length-set, drop, map, ap, sym, subst, arith, ◌∙◌}
use Rattle.std.proofs.lemmas.List.{take_all, take_more_set}
use Rattle.svc_base.proofs.TextLemmas.{on_none}
use Rattle.serv_line.specs.Lines.{words_of, words_left}
use Rattle.servicing_transfer.specs.declared.loan_fields.Value.{Value}
use Rattle.servicing_transfer.specs.FieldValues.{said, Spell}
use Rattle.servicing_transfer.proofs.FieldLemmas.{Reading, at_field, at_end, read_one, misnamed, misread, too_many, all_read}
use Rattle.servicing_transfer.proofs.LineWords.{some_words}
use Rattle.servicing_transfer.proofs.loan_line.read_values.Goals as goal

pub returns-in_err-word-clause-none : goal.returns-in_err-word-clause-none
returns-in_err-word-clause-none c =
    let here = at_field c.args.fields.now c.loop-i.i _ (omega (arith, c.told-fields, c.loop-i-test.true)) c.loop-i.invariant.reading in
    on_none _ (misnamed _ here c.in_err-word.ensures.none)

pub returns-in_err-values-clause-none : goal.returns-in_err-values-clause-none
returns-in_err-values-clause-none c =
    let here = at_field c.args.fields.now c.loop-i.i _ (omega (arith, c.told-fields, c.loop-i-test.true)) c.loop-i.invariant.reading in
    on_none _ (misread _ _ _ here c.in_ok-word.ensures.found c.in_err-values.ensures.none)

pub loop-i-preserved : goal.loop-i-preserved
loop-i-preserved c =
    let values = c.loop-i.values in
    let fields = map said c.args.fields.now in
    let P : List Value → Type 0 = λ vs. Reading fields (words_of c.args.line.now) (drop (c.loop-i.i + 1) fields) vs (words_left c.in_ok-word.more) in
    let here = at_field c.args.fields.now c.loop-i.i _ (omega (arith, c.told-fields, c.loop-i-test.true)) c.loop-i.invariant.reading in
    record {
      nine = length-set values c.loop-i.i _ ∙ c.loop-i.invariant.nine;
      reading = subst P (sym (take_more_set values c.loop-i.i _ (omega arith)))
          (read_one _ _ _ _ here c.in_ok-word.ensures.found c.in_ok-values.ensures.read c.in_ok-values.ensures.kind);
    }

pub returns-in-Some-clause-none : goal.returns-in-Some-clause-none
returns-in-Some-clause-none c =
    too_many (at_end c.args.fields.now c.loop-i.i (omega (arith, c.told-fields, c.loop-i-test.false)) c.loop-i.invariant.reading) (some_words c.loop-i.rest _ c.in-Some.is)

pub returns-in-None-clause-read : goal.returns-in-None-clause-read
returns-in-None-clause-read c =
    let values = c.loop-i.values in
    let P : List Value → Type 0 = λ vs. Spell (map said c.args.fields.now) vs (words_of c.args.line.now) in
    let nine = c.loop-i.invariant.nine in
    let past : length values ≤ c.loop-i.i = omega (arith, nine, c.loop-i-test.false) in
    let end = at_end c.args.fields.now c.loop-i.i (omega (arith, c.told-fields, c.loop-i-test.false)) c.loop-i.invariant.reading in
    subst P (take_all c.loop-i.i values past) (all_read end (ap words_left c.in-None.is))
