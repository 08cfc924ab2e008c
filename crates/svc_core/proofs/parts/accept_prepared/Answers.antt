use Rattle.std.proofs.Common.{◌+◌, ◌≤◌, ◌++◌, arith, ap, ◌∙◌}
use Rattle.svc_world.specs.World.{after}
use Rattle.svc_world.specs.Judging.{extra_of}
use Rattle.svc_world.specs.Custody.{rows_made}
use Rattle.svc_core.specs.State.{world_of}
use Rattle.svc_core.proofs.PartsLemmas.{count_few, state_is, cash_of_parts, fresh_here, fresh_number, fresh_few, IsMore, parts_more, replied_last}
use Rattle.svc_core.proofs.parts.accept_prepared.Goals as goal

pub overflow_cast-count : goal.overflow_cast-count
overflow_cast-count g c =
    let few : c.count-count.result ≤ 1_000_000 = count_few c.args.parts.now.posted c.count-count.result c.args.parts.now.state.today c.args.parts.now.state.loans c.args.parts.now.state.seals c.args.parts.now.cash.book.rows c.args.parts.now.cash.custody c.args.parts.now.cash.positions.items c.requires.parts c.count-count.ensures in
    omega arith

pub overflow_add-count : goal.overflow_add-count
overflow_add-count g c =
    let few : c.count-count.result ≤ 1_000_000 = count_few c.args.parts.now.posted c.count-count.result c.args.parts.now.state.today c.args.parts.now.state.loans c.args.parts.now.state.seals c.args.parts.now.cash.book.rows c.args.parts.now.cash.custody c.args.parts.now.cash.positions.items c.requires.parts c.count-count.ensures in
    omega arith

pub accept_scoped-extra-requires-clause-state : goal.accept_scoped-extra-requires-clause-state
accept_scoped-extra-requires-clause-state g c = state_is c.args.parts.now.posted c.count-count.result c.args.parts.now.state.today c.args.parts.now.state.loans c.args.parts.now.state.seals c.args.parts.now.cash.book.rows c.args.parts.now.cash.custody c.args.parts.now.cash.positions.items c.requires.parts c.count-count.ensures

pub accept_scoped-extra-requires-clause-cash : goal.accept_scoped-extra-requires-clause-cash
accept_scoped-extra-requires-clause-cash g c = cash_of_parts c.args.parts.now.posted c.count-count.result c.args.parts.now.state.today c.args.parts.now.state.loans c.args.parts.now.state.seals c.args.parts.now.cash.book.rows c.args.parts.now.cash.custody c.args.parts.now.cash.positions.items c.requires.parts c.count-count.ensures

pub accept_scoped-extra-requires-clause-fresh : goal.accept_scoped-extra-requires-clause-fresh
accept_scoped-extra-requires-clause-fresh g c = fresh_here c.args.parts.now.posted c.count-count.result c.args.parts.now.state.today c.args.parts.now.state.loans c.args.parts.now.state.seals c.args.parts.now.cash.book.rows c.args.parts.now.cash.custody c.args.parts.now.cash.positions.items c.args.key.now c.args.command.now c.requires.parts c.count-count.ensures c.requires.prepared.fresh

pub push-requires-clause-key : goal.push-requires-clause-key
push-requires-clause-key g c = fresh_number c.args.parts.now.posted.history c.args.key.now c.args.command.now c.requires.prepared.fresh

pub push-requires-clause-few : goal.push-requires-clause-few
push-requires-clause-few g c = fresh_few c.args.parts.now.posted.history c.args.key.now c.args.command.now c.requires.prepared.fresh

pub returns-clause-parts : goal.returns-clause-parts
returns-clause-parts g c =
    let is = c.count-count.ensures in
    let w = world_of c.args.parts.now.state.today c.args.parts.now.state.loans c.args.parts.now.state.seals in
    let w' = world_of c.accept_scoped-extra.new.state.today c.accept_scoped-extra.new.state.loans c.accept_scoped-extra.new.state.seals in
    let x = c.args.command.now in
    let e = c.accept_scoped-extra.ensures in
    let more : IsMore c.args.parts.now.posted c.push.new.self c.args.parts.now.state.today c.accept_scoped-extra.new.state.today c.args.parts.now.state.loans c.accept_scoped-extra.new.state.loans c.args.parts.now.state.seals c.accept_scoped-extra.new.state.seals c.args.parts.now.cash.book.rows c.accept_scoped-extra.new.cash.book.rows c.accept_scoped-extra.new.cash.custody c.accept_scoped-extra.new.cash.positions.items c.args.key.now x c.accept_scoped-extra.result = record {
      key_formed = c.requires.prepared.key_formed;
      formed = c.requires.prepared.formed;
      fresh = c.requires.prepared.fresh;
      history = c.push.ensures.history;
      replies = c.push.ensures.replies;
      extra_is = e.extra ∙ ap (λ k. extra_of w (after (k + 1) w x) x) is;
      world_is = e.world ∙ ap (λ k. after (k + 1) w x) is;
      kept = e.kept;
      rows_are = e.rows ∙ ap (λ k. c.args.parts.now.cash.book.rows ++ rows_made (k + 1) w w') is;
      line = e.custody;
      places = e.positions;
    } in
    parts_more c.args.parts.now.posted c.push.new.self c.args.parts.now.state.today c.accept_scoped-extra.new.state.today c.args.parts.now.state.loans c.accept_scoped-extra.new.state.loans c.args.parts.now.state.seals c.accept_scoped-extra.new.state.seals c.args.parts.now.cash.book.rows c.accept_scoped-extra.new.cash.book.rows c.args.parts.now.cash.custody c.accept_scoped-extra.new.cash.custody c.args.parts.now.cash.positions.items c.accept_scoped-extra.new.cash.positions.items c.args.key.now x c.accept_scoped-extra.result c.requires.parts more

pub returns-clause-reply : goal.returns-clause-reply
returns-clause-reply g c =
    let is = c.count-count.ensures in
    let w = world_of c.args.parts.now.state.today c.args.parts.now.state.loans c.args.parts.now.state.seals in
    let w' = world_of c.accept_scoped-extra.new.state.today c.accept_scoped-extra.new.state.loans c.accept_scoped-extra.new.state.seals in
    let x = c.args.command.now in
    let e = c.accept_scoped-extra.ensures in
    let more : IsMore c.args.parts.now.posted c.push.new.self c.args.parts.now.state.today c.accept_scoped-extra.new.state.today c.args.parts.now.state.loans c.accept_scoped-extra.new.state.loans c.args.parts.now.state.seals c.accept_scoped-extra.new.state.seals c.args.parts.now.cash.book.rows c.accept_scoped-extra.new.cash.book.rows c.accept_scoped-extra.new.cash.custody c.accept_scoped-extra.new.cash.positions.items c.args.key.now x c.accept_scoped-extra.result = record {
      key_formed = c.requires.prepared.key_formed;
      formed = c.requires.prepared.formed;
      fresh = c.requires.prepared.fresh;
      history = c.push.ensures.history;
      replies = c.push.ensures.replies;
      extra_is = e.extra ∙ ap (λ k. extra_of w (after (k + 1) w x) x) is;
      world_is = e.world ∙ ap (λ k. after (k + 1) w x) is;
      kept = e.kept;
      rows_are = e.rows ∙ ap (λ k. c.args.parts.now.cash.book.rows ++ rows_made (k + 1) w w') is;
      line = e.custody;
      places = e.positions;
    } in
    replied_last c.args.parts.now.posted c.push.new.self c.args.parts.now.state.today c.accept_scoped-extra.new.state.today c.args.parts.now.state.loans c.accept_scoped-extra.new.state.loans c.args.parts.now.state.seals c.accept_scoped-extra.new.state.seals c.args.parts.now.cash.book.rows c.accept_scoped-extra.new.cash.book.rows c.args.parts.now.cash.custody c.accept_scoped-extra.new.cash.custody c.args.parts.now.cash.positions.items c.accept_scoped-extra.new.cash.positions.items c.args.key.now x c.accept_scoped-extra.result c.count-count.result c.reply.result c.requires.parts more is c.reply.ensures
