use Rattle.std.proofs.Common.{ap}
use Rattle.std.specs.Prelude.{pos, int_le}
use Rattle.svc_replay.proofs.PlainLemmas.{facts_same, cast_same, cast_less}
use Rattle.svc_replay.proofs.collected.facts_between.Goals as goal

pub returns : goal.returns
returns c =
    let a = c.args.after.now in
    let b = c.args.before.now in
    let x = c.requires.after in
    let y = c.requires.before in
    let upb = cast_same a.upb x.upb_low x.upb_high in
    facts_same c.args.month _ _ _ _ _ _ _ _ _ _ upb
    (cast_less a.curtailed b.curtailed x.curtailed_low x.curtailed_high y.curtailed_low y.curtailed_high)
    (cast_less a.interest b.interest x.interest_low x.interest_high y.interest_low y.interest_high)
    (cast_less a.fee b.fee x.fee_low x.fee_high y.fee_low y.fee_high)
    (ap (λ z. int_le z (pos 0)) upb)
