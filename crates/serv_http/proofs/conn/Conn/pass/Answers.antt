use Rattle.std.proofs.Common.{refl}
use Rattle.serv_http.specs.Streams.{ask_of}
use Rattle.serv_http.proofs.StepLemmas.{pass-more, pass-whole, step-asked}
use Rattle.serv_http.proofs.conn.Conn.pass.Goals as goal

pub returns-then-piece-left-clause-step : goal.returns-then-piece-left-clause-step
returns-then-piece-left-clause-step c = λ s x. (refl, pass-more c.args.left c.args.due.now s c.args.piece.now x c.if-piece-left.true)

pub returns-clause-step : goal.returns-clause-step
returns-clause-step c = λ s x.
    step-asked s c.args.piece.now c.finish.new.self c.args.left (ask_of c.args.due.now) c.asked.result c.is_last.result
    c.if-piece-left.false (pass-whole c.args.left c.args.due.now s c.args.piece.now x c.if-piece-left.false)
    c.asked.ensures c.is_last.ensures c.finish.ensures.stage c.finish.ensures.filled
