use Rattle.std.proofs.Common.{◌-◌, ◌∙◌, ℕ, List, take, refl, ap, arith}
use Rattle.serv_http.specs.declared.ask.Ask.TheVariants.{Post}
use Rattle.serv_http.proofs.StepLemmas.{keep-more, keep-ends, not-awaited, step-asked}
use Rattle.serv_http.proofs.conn.Conn.keep.Goals as goal

pub returns-then-piece-wanted-clause-ok : goal.returns-then-piece-wanted-clause-ok
returns-then-piece-wanted-clause-ok c = λ s x. (
  refl,
  (
    keep-more c.args.self.now.body c.put.new.self c.args.have c.args.need c.args.last s c.args.piece.now x
        (omega (arith, c.args.self.now.body_room, c.requires.there, c.requires.room)) c.put.ensures.after,
    omega (arith, c.if-piece-wanted.true),
  ),
)

pub returns-in-Err-clause-err : goal.returns-in-Err-clause-err
returns-in-Err-clause-err c = λ s x.
    not-awaited s c.args.piece.now (c.args.need - c.args.have) _ _
    (keep-ends c.args.self.now.body c.put-2.new.self c.args.have c.args.need c.args.last s c.args.piece.now x c.requires.there
    (omega (arith, c.args.self.now.body_room, c.requires.room)) c.if-piece-wanted.false c.put-2.ensures.after)

pub returns-in-Ok-clause-ok : goal.returns-in-Ok-clause-ok
returns-in-Ok-clause-ok c = λ s x.
    step-asked s c.args.piece.now c.finish.new.self (c.args.need - c.args.have) (Post (take c.args.need c.put-2.new.self) c.args.last)
    (Post c.in-Ok.body c.args.last) c.args.last c.if-piece-wanted.false
    (keep-ends c.args.self.now.body c.put-2.new.self c.args.have c.args.need c.args.last s c.args.piece.now x c.requires.there
    (omega (arith, c.args.self.now.body_room, c.requires.room)) c.if-piece-wanted.false c.put-2.ensures.after)
    (ap (λ (t : List ℕ). Post t c.args.last) (c.in-Ok.ensures ∙ c.front.ensures)) refl c.finish.ensures.stage c.finish.ensures.filled
