use Rattle.std.proofs.Common.{◌∙◌, sym, ap}
use Rattle.std.specs.Option.{option_map}
use Rattle.svc_world.specs.Answers.{posting_answer}
use Rattle.svc_core.proofs.PostingLemmas.{posting_at}
use Rattle.svc_core.proofs.desk.posting_answer.Goals as goal

pub returns : goal.returns
returns c =
    ap (option_map posting_answer) (posting_at c.args.posted.now.history c.args.posted.now.replies c.args.number _ c.reply-reply.result c.requires.some
    (ap (option_map (λ p. Rattle.svc_world.specs.World.accepted p.0 p.1)) (sym c.in-Some.is) ∙ c.command.ensures) c.reply-reply.ensures)
