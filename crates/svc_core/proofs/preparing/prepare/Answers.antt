use Rattle.std.proofs.Common.{vec_capacity, sym, subst}
use Rattle.svc_world.specs.World.{today_after}
use Rattle.svc_world.specs.Scope.{scope_of}
use Rattle.svc_rules.specs.Targets.{IsTarget}
use Rattle.svc_core.specs.Ready.{HasRoomForAll, IsBoarding, IsReadyFor}
use Rattle.svc_core.proofs.ReadyLemmas.{target_one, target_new, target_every, ready_one, ready_new, ready_every, kept_later, may_begin_on}
use Rattle.svc_core.proofs.preparing.prepare.Goals as goal

pub room_for_one-requires-clause-place : goal.room_for_one-requires-clause-place
room_for_one-requires-clause-place g c = (target_one (scope_of c.args.command.now) c.args.state.now.loans.loans c.in-One.place (subst (IsTarget (scope_of c.args.command.now) c.args.state.now.loans.loans) c.in-One.is c.requires.target)).1

pub new_loan-requires : goal.new_loan-requires
new_loan-requires g c =
    let s = c.args.state.now in
    may_begin_on c.args.count c.in-New.id s.today c.room_for_new.new.state.today c.in-New.terms s.loans s.seals c.args.command.now (target_new (scope_of c.args.command.now) c.args.state.now.loans.loans c.in-New.id c.in-New.terms (subst (IsTarget (scope_of c.args.command.now) c.args.state.now.loans.loans) c.in-New.is c.requires.target)) c.requires.command c.requires.fresh c.room_for_new.ensures.today

pub returns-in_err-room_for_one-in-One-clause-kept : goal.returns-in_err-room_for_one-in-One-clause-kept
returns-in_err-room_for_one-in-One-clause-kept g c =
    let s = c.args.state.now in
    let t = c.room_for_one.new.state in
    kept_later c.args.count s.today t.today s.loans t.loans s.seals t.seals c.requires.state c.room_for_one.ensures.stay c.room_for_one.ensures.today

pub returns-in_ok-room_for_one-in-One-clause-kept : goal.returns-in_ok-room_for_one-in-One-clause-kept
returns-in_ok-room_for_one-in-One-clause-kept g c =
    let s = c.args.state.now in
    let t = c.room_for_one.new.state in
    kept_later c.args.count s.today t.today s.loans t.loans s.seals t.seals c.requires.state c.room_for_one.ensures.stay c.room_for_one.ensures.today

pub returns-in_err-room_for_new-in-New-clause-kept : goal.returns-in_err-room_for_new-in-New-clause-kept
returns-in_err-room_for_new-in-New-clause-kept g c =
    let s = c.args.state.now in
    let t = c.room_for_new.new.state in
    kept_later c.args.count s.today t.today s.loans t.loans s.seals t.seals c.requires.state c.room_for_new.ensures.stay c.room_for_new.ensures.today

pub returns-in_err-loan-in-New-clause-kept : goal.returns-in_err-loan-in-New-clause-kept
returns-in_err-loan-in-New-clause-kept g c =
    let s = c.args.state.now in
    let t = c.room_for_new.new.state in
    kept_later c.args.count s.today t.today s.loans t.loans s.seals t.seals c.requires.state c.room_for_new.ensures.stay c.room_for_new.ensures.today

pub returns-in_ok-loan-in-New-clause-kept : goal.returns-in_ok-loan-in-New-clause-kept
returns-in_ok-loan-in-New-clause-kept g c =
    let s = c.args.state.now in
    let t = c.room_for_new.new.state in
    kept_later c.args.count s.today t.today s.loans t.loans s.seals t.seals c.requires.state c.room_for_new.ensures.stay c.room_for_new.ensures.today

pub returns-in_err-room_for_all-in-Every-clause-kept : goal.returns-in_err-room_for_all-in-Every-clause-kept
returns-in_err-room_for_all-in-Every-clause-kept g c =
    let s = c.args.state.now in
    let t = c.room_for_all.new.state in
    kept_later c.args.count s.today t.today s.loans t.loans s.seals t.seals c.requires.state c.room_for_all.ensures.stay c.room_for_all.ensures.today

pub returns-in_ok-room_for_all-in-Every-clause-kept : goal.returns-in_ok-room_for_all-in-Every-clause-kept
returns-in_ok-room_for_all-in-Every-clause-kept g c =
    let s = c.args.state.now in
    let t = c.room_for_all.new.state in
    kept_later c.args.count s.today t.today s.loans t.loans s.seals t.seals c.requires.state c.room_for_all.ensures.stay c.room_for_all.ensures.today

pub returns-in_ok-room_for_one-in-One-clause-ready : goal.returns-in_ok-room_for_one-in-One-clause-ready
returns-in_ok-room_for_one-in-One-clause-ready g c =
    let s = scope_of c.args.command.now in
    let t = c.room_for_one.new.state in
    let later = today_after c.args.state.now.today c.args.command.now in
    ready_one _ s c.args.state.now.today later t.loans t.seals c.room_for_one.new.cash.book.spare (vec_capacity c.room_for_one.new.scratch.dues) c.room_for_one.new.cash.positions.room (vec_capacity c.room_for_one.new.scratch.lines) c.in-One.place
    (target_one s c.args.state.now.loans.loans c.in-One.place (subst (IsTarget s c.args.state.now.loans.loans) c.in-One.is c.requires.target)).0 c.room_for_one.ensures.place c.in_ok-room_for_one-in-One.ensures.ready

pub returns-in_ok-loan-in-New-clause-ready : goal.returns-in_ok-loan-in-New-clause-ready
returns-in_ok-loan-in-New-clause-ready g c =
    let s = scope_of c.args.command.now in
    let t = c.room_for_new.new.state in
    let later = today_after c.args.state.now.today c.args.command.now in
    subst (λ r. IsReadyFor s c.args.state.now.today later t.loans t.seals c.room_for_new.new.cash.book.spare (vec_capacity c.args.scratch.now.dues) c.room_for_new.new.cash.positions.room (vec_capacity c.args.scratch.now.lines) r) (sym c.taken_on.ensures)
    (ready_new _ s c.args.state.now.today later t.loans t.seals c.room_for_new.new.cash.book.spare (vec_capacity c.args.scratch.now.dues) c.room_for_new.new.cash.positions.room (vec_capacity c.args.scratch.now.lines) c.in-New.id c.in-New.terms c.in_ok-loan-in-New.loan
    (target_new s c.args.state.now.loans.loans c.in-New.id c.in-New.terms (subst (IsTarget s c.args.state.now.loans.loans) c.in-New.is c.requires.target)) c.in_ok-room_for_new-in-New.ensures.ready (subst (λ d. IsBoarding c.in-New.id c.in-New.terms d c.in_ok-loan-in-New.loan.value) c.room_for_new.ensures.today c.in_ok-loan-in-New.ensures.loan))

pub returns-in_ok-room_for_all-in-Every-clause-ready : goal.returns-in_ok-room_for_all-in-Every-clause-ready
returns-in_ok-room_for_all-in-Every-clause-ready g c =
    let s = scope_of c.args.command.now in
    let t = c.room_for_all.new.state in
    let later = today_after c.args.state.now.today c.args.command.now in
    ready_every _ s c.args.state.now.today later t.loans t.seals c.room_for_all.new.cash.book.spare (vec_capacity c.room_for_all.new.scratch.dues) c.room_for_all.new.cash.positions.room (vec_capacity c.room_for_all.new.scratch.lines)
    (target_every s c.args.state.now.loans.loans (subst (IsTarget s c.args.state.now.loans.loans) c.in-Every.is c.requires.target)) (subst (λ d. HasRoomForAll d t.loans t.seals c.room_for_all.new.cash.book.spare (vec_capacity c.room_for_all.new.scratch.lines)) c.today_after-later.ensures c.in_ok-room_for_all-in-Every.ensures.ready)
