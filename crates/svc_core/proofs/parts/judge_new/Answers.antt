use Rattle.std.proofs.Common.{vec_capacity, rules, ◌≤◌, arith, sym, ap, subst, ◌∙◌}
use Rattle.std.specs.Prelude.{None, Some}
use Rattle.svc_types.specs.Keys.{IsKey}
use Rattle.svc_world.specs.Judging.{judged}
use Rattle.svc_world.specs.World.{today_after}
use Rattle.svc_world.specs.Scope.{scope_of}
use Rattle.svc_core.specs.Ready.{IsReadyFor}
use Rattle.svc_core.proofs.PartsLemmas.{count_few, state_is, judged_here, refused_steps, fresh_steps}
use Rattle.svc_core.proofs.parts.judge_new.Goals as goal

pub overflow_cast-count : goal.overflow_cast-count
overflow_cast-count g c =
    let few : c.count-count.result ≤ 1_000_000 = count_few c.args.parts.now.posted c.count-count.result c.args.parts.now.state.today c.args.parts.now.state.loans c.args.parts.now.state.seals c.args.parts.now.cash.book.rows c.args.parts.now.cash.custody c.args.parts.now.cash.positions.items c.requires.parts c.count-count.ensures in
    omega arith

pub refuse-requires : goal.refuse-requires
refuse-requires g c = record { world = (state_is c.args.parts.now.posted c.count-count.result c.args.parts.now.state.today c.args.parts.now.state.loans c.args.parts.now.state.seals c.args.parts.now.cash.book.rows c.args.parts.now.cash.custody c.args.parts.now.cash.positions.items c.requires.parts c.count-count.ensures).world }

pub prepare-requires-clause-state : goal.prepare-requires-clause-state
prepare-requires-clause-state g c = state_is c.args.parts.now.posted c.count-count.result c.args.parts.now.state.today c.args.parts.now.state.loans c.args.parts.now.state.seals c.args.parts.now.cash.book.rows c.args.parts.now.cash.custody c.args.parts.now.cash.positions.items c.requires.parts c.count-count.ensures

pub returns-in_err-target-clause-fault : goal.returns-in_err-target-clause-fault
returns-in_err-target-clause-fault g c =
    let said = judged_here c.args.parts.now.posted c.count-count.result c.args.parts.now.state.today c.args.parts.now.state.loans c.args.parts.now.state.seals c.args.parts.now.cash.book.rows c.args.parts.now.cash.custody c.args.parts.now.cash.positions.items c.args.key.now c.args.command.now (Some c.in_err-target.field-0.0) c.requires.parts c.count-count.ensures c.requires.unknown (sym c.in_err-target.ensures.cause) in
    search (rules, said)

pub returns-in_err-target-clause-steps : goal.returns-in_err-target-clause-steps
returns-in_err-target-clause-steps g c = refused_steps g.B.LoanBooks.cost c.args.parts.now.posted c.args.parts.now.state.today c.args.parts.now.state.loans c.args.parts.now.state.seals c.args.parts.now.cash.book.rows c.args.parts.now.cash.custody c.args.parts.now.cash.positions.items c.args.key.now c.args.command.now c.in_err-target.field-0.0 c.args.steps.now c.refuse.new.steps c.requires.parts (judged_here c.args.parts.now.posted c.count-count.result c.args.parts.now.state.today c.args.parts.now.state.loans c.args.parts.now.state.seals c.args.parts.now.cash.book.rows c.args.parts.now.cash.custody c.args.parts.now.cash.positions.items c.args.key.now c.args.command.now (Some c.in_err-target.field-0.0) c.requires.parts c.count-count.ensures c.requires.unknown (sym c.in_err-target.ensures.cause)) c.refuse.ensures.steps

pub returns-in_err-reserve-clause-steps : goal.returns-in_err-reserve-clause-steps
returns-in_err-reserve-clause-steps g c =
    let fresh = judged_here c.args.parts.now.posted c.count-count.result c.args.parts.now.state.today c.args.parts.now.state.loans c.args.parts.now.state.seals c.args.parts.now.cash.book.rows c.args.parts.now.cash.custody c.args.parts.now.cash.positions.items c.args.key.now c.args.command.now None c.requires.parts c.count-count.ensures c.requires.unknown (sym c.in_ok-target.ensures.fresh) in
    let le = c.refuse.ensures.steps in
    fresh_steps g.B.LoanBooks.cost c.args.parts.now.posted c.args.parts.now.state.today c.args.parts.now.state.loans c.args.parts.now.state.seals c.args.parts.now.cash.book.rows c.args.parts.now.cash.custody c.args.parts.now.cash.positions.items c.args.key.now c.args.command.now c.args.steps.now c.refuse.new.steps c.requires.parts fresh (omega (arith, le))

pub returns-in_err-ready-clause-steps : goal.returns-in_err-ready-clause-steps
returns-in_err-ready-clause-steps g c =
    let fresh = judged_here c.args.parts.now.posted c.count-count.result c.args.parts.now.state.today c.args.parts.now.state.loans c.args.parts.now.state.seals c.args.parts.now.cash.book.rows c.args.parts.now.cash.custody c.args.parts.now.cash.positions.items c.args.key.now c.args.command.now None c.requires.parts c.count-count.ensures c.requires.unknown (sym c.in_ok-target.ensures.fresh) in
    let le = c.refuse.ensures.steps in
    let more = c.prepare.ensures.steps in
    fresh_steps g.B.LoanBooks.cost c.args.parts.now.posted c.args.parts.now.state.today c.args.parts.now.state.loans c.args.parts.now.state.seals c.args.parts.now.cash.book.rows c.args.parts.now.cash.custody c.args.parts.now.cash.positions.items c.args.key.now c.args.command.now c.args.steps.now c.prepare.new.steps c.requires.parts fresh (omega (arith, le, more))

pub returns-clause-steps : goal.returns-clause-steps
returns-clause-steps g c =
    let fresh = judged_here c.args.parts.now.posted c.count-count.result c.args.parts.now.state.today c.args.parts.now.state.loans c.args.parts.now.state.seals c.args.parts.now.cash.book.rows c.args.parts.now.cash.custody c.args.parts.now.cash.positions.items c.args.key.now c.args.command.now None c.requires.parts c.count-count.ensures c.requires.unknown (sym c.in_ok-target.ensures.fresh) in
    let le = c.refuse.ensures.steps in
    let more = c.prepare.ensures.steps in
    fresh_steps g.B.LoanBooks.cost c.args.parts.now.posted c.args.parts.now.state.today c.args.parts.now.state.loans c.args.parts.now.state.seals c.args.parts.now.cash.book.rows c.args.parts.now.cash.custody c.args.parts.now.cash.positions.items c.args.key.now c.args.command.now c.args.steps.now c.prepare.new.steps c.requires.parts fresh (omega (arith, le, more))

pub returns-clause-fresh : goal.returns-clause-fresh
returns-clause-fresh g c =
    let fresh = judged_here c.args.parts.now.posted c.count-count.result c.args.parts.now.state.today c.args.parts.now.state.loans c.args.parts.now.state.seals c.args.parts.now.cash.book.rows c.args.parts.now.cash.custody c.args.parts.now.cash.positions.items c.args.key.now c.args.command.now None c.requires.parts c.count-count.ensures c.requires.unknown (sym c.in_ok-target.ensures.fresh) in
    fresh

pub returns-clause-prepared : goal.returns-clause-prepared
returns-clause-prepared g c =
    let fresh = judged_here c.args.parts.now.posted c.count-count.result c.args.parts.now.state.today c.args.parts.now.state.loans c.args.parts.now.state.seals c.args.parts.now.cash.book.rows c.args.parts.now.cash.custody c.args.parts.now.cash.positions.items c.args.key.now c.args.command.now None c.requires.parts c.count-count.ensures c.requires.unknown (sym c.in_ok-target.ensures.fresh) in
    record {
      fresh = ap (λ h. judged h c.args.key.now c.args.command.now) c.in_ok-reserve.ensures.history ∙ fresh;
      key_formed = subst IsKey c.bytes.ensures.value c.bytes.ensures.key;
      formed = c.requires.command;
      place = c.in_ok-reserve.ensures.room;
      ready_for = subst (λ d. IsReadyFor (scope_of c.args.command.now) d (today_after d c.args.command.now) c.prepare.new.state.loans c.prepare.new.state.seals c.prepare.new.cash.book.spare (vec_capacity c.prepare.new.scratch.dues) c.prepare.new.cash.positions.room (vec_capacity c.prepare.new.scratch.lines) c.in_ok-ready.ready) (sym c.in_ok-ready.ensures.today) c.in_ok-ready.ensures.ready;
    }

pub returns-in_err-reserve-clause-fault : goal.returns-in_err-reserve-clause-fault
returns-in_err-reserve-clause-fault g c =
    let fresh = judged_here c.args.parts.now.posted c.count-count.result c.args.parts.now.state.today c.args.parts.now.state.loans c.args.parts.now.state.seals c.args.parts.now.cash.book.rows c.args.parts.now.cash.custody c.args.parts.now.cash.positions.items c.args.key.now c.args.command.now None c.requires.parts c.count-count.ensures c.requires.unknown (sym c.in_ok-target.ensures.fresh) in
    search (rules, fresh)

pub returns-in_err-ready-clause-fault : goal.returns-in_err-ready-clause-fault
returns-in_err-ready-clause-fault g c =
    let fresh = judged_here c.args.parts.now.posted c.count-count.result c.args.parts.now.state.today c.args.parts.now.state.loans c.args.parts.now.state.seals c.args.parts.now.cash.book.rows c.args.parts.now.cash.custody c.args.parts.now.cash.positions.items c.args.key.now c.args.command.now None c.requires.parts c.count-count.ensures c.requires.unknown (sym c.in_ok-target.ensures.fresh) in
    search (rules, fresh)
