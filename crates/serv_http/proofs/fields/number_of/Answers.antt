use Rattle.std.proofs.Common.{sym, ◌∙◌}
use Rattle.serv_http.proofs.FieldLemmas.{IsNumber, number-more}
use Rattle.serv_http.proofs.fields.number_of.Goals as goal

pub loop-i-preserved : goal.loop-i-preserved
loop-i-preserved c =
    let before : IsNumber c.args.digits.now c.loop-i.i c.loop-i.number = record {
      digits_so_far = c.loop-i.invariant.digits;
      value = c.loop-i.invariant.value;
      small = c.loop-i.invariant.small;
    } in
    let more = number-more c.args.digits.now c.loop-i.i c.loop-i.number c.from.result c.loop-i-test.true before
    (sym c.is_ascii_digit.ensures.value ∙ c.if-not-is_ascii_digit.false) c.from.ensures in
    record { digits = more.digits_so_far; value = more.value; small = more.small }
