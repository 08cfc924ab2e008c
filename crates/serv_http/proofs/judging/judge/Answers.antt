use Rattle.std.proofs.Common.{ℕ, List, take, Err, ap}
use Rattle.std.proofs.lemmas.Bool.{both_ways}
use Rattle.httparse.specs.Grammar.{HasNoRequest, MayBecomeRequest}
use Rattle.httparse.specs.Spans.{IsRequestOf, IsRequestWithin}
use Rattle.httparse.proofs.HeadLemmas.{at_complete, on_partial}
use Rattle.serv_http.proofs.JudgeLemmas.{whole-head, open-head, error-never, refused-head, target-head}
use Rattle.serv_http.proofs.judging.judge.Goals as goal

pub returns-in-Ok-Complete : goal.returns-in-Ok-Complete
returns-in-Ok-Complete c =
    let few : List ℕ = take c.window-count.result.0 c.args.buf.now in
    let of : IsRequestOf few c.parse_request.new.headers c.in-Ok-Complete.spans =
    at_complete (IsRequestOf few c.parse_request.new.headers) c.in-Ok-Complete.is c.in-Ok-Complete.field-0-is c.parse_request.ensures.complete in
    let within : IsRequestWithin few c.parse_request.new.headers c.in-Ok-Complete.spans =
    at_complete (IsRequestWithin few c.parse_request.new.headers) c.in-Ok-Complete.is c.in-Ok-Complete.field-0-is c.parse_request.ensures.within in
    whole-head c.args.buf.now few c.parse_request.new.headers c.in-Ok-Complete.spans c.plan_at.result c.window-count.ensures.judged
    c.parse_request.auto.headers of within c.plan_at.ensures.fits c.plan_at.ensures.value

pub returns-in-Ok-Partial : goal.returns-in-Ok-Partial
returns-in-Ok-Partial c =
    let few : List ℕ = take c.window-count.result.0 c.args.buf.now in
    let none : HasNoRequest few = on_partial c.in-Ok-Partial.is c.in-Ok-Partial.field-0-is c.parse_request.ensures.partial in
    let may : MayBecomeRequest few = on_partial c.in-Ok-Partial.is c.in-Ok-Partial.field-0-is c.parse_request.ensures.unfinished in
    open-head c.args.buf.now few _ c.unfinished.result c.window-count.ensures.judged c.window-count.ensures.closed
    none may c.unfinished.ensures

pub returns-then-ends_in_target : goal.returns-then-ends_in_target
returns-then-ends_in_target c =
    let same = c.window-count.ensures.judged in
    target-head c.args.buf.now _ _ c.unfinished-then-ends_in_target.result same c.window-count.ensures.closed
    (error-never c.args.buf.now _ c.in-Err.field-0 same c.in-Err.ensures.invalid
    (λ e. c.in-Err.ensures.too_many (ap Err e)))
    (c.ends_in_target.ensures.0 c.if-ends_in_target.true) c.unfinished-then-ends_in_target.ensures

pub returns-else-ends_in_target : goal.returns-else-ends_in_target
returns-else-ends_in_target c =
    let same = c.window-count.ensures.judged in
    refused-head c.args.buf.now _ same
    (error-never c.args.buf.now _ c.in-Err.field-0 same c.in-Err.ensures.invalid
    (λ e. c.in-Err.ensures.too_many (ap Err e)))
    (λ ends. both_ways c.ends_in_target.result c.if-ends_in_target.false (c.ends_in_target.ensures.1 ends))
