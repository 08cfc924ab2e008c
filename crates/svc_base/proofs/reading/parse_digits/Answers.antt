use Rattle.std.proofs.Common.{◌≡◌, ◌+◌, ◌*◌, get_or, take, arith, rules, sym, ap, subst, ◌∙◌}
use Rattle.std.specs.Str.Parse.{AllDigits, digits_value}
use Rattle.std.specs.Char.{digit_value}
use Rattle.std.proofs.lemmas.List.{take_all}
use Rattle.std.proofs.lemmas.Int.Digits.{digits_value_more}
use Rattle.svc_base.proofs.DigitLemmas.{digits_more, digit_here, value_within}
use Rattle.svc_base.proofs.reading.parse_digits.Goals as goal

pub returns-in_err-number : goal.returns-in_err-number
returns-in_err-number c =
    let ds = c.args.text.now in
    let i = c.loop-byte.byte-index in
    rw c.from_residual.ensures (λ h. c.in_err-number.ensures (digit_here ds i h.0.1 (omega arith), value_within ds i c.loop-byte.number 18_446_744_073_709_551_616 (omega arith) c.loop-byte.invariant.number h.1))

pub loop-byte-preserved : goal.loop-byte-preserved
loop-byte-preserved c =
    let ds = c.args.text.now in
    let i = c.loop-byte.byte-index in
    let h = c.in_ok-number.ensures in
    record {
      digits = digits_more ds i (omega arith) c.loop-byte.invariant.digits h.0.0;
      number = h.1 ∙ ap (λ m. m * 10 + digit_value (get_or ds i 0)) c.loop-byte.invariant.number ∙ sym (digits_value_more 10 ds i (omega arith));
      small = (let less = h.0.1 in let is = h.1 in omega arith);
    }

pub returns : goal.returns
returns c =
    let ds = c.args.text.now in
    let i = c.loop-byte.byte-index in
    let all : take i ds ≡ ds = take_all i ds (omega arith) in
    let is : c.loop-byte.number ≡ digits_value 10 ds = c.loop-byte.invariant.number ∙ ap (digits_value 10) all in
    let small = c.loop-byte.invariant.small in
    (((search rules, subst (AllDigits 10) all c.loop-byte.invariant.digits), omega (arith, is)), is)
