use Rattle.std.proofs.Common.{◌≡◌, ℕ, List, ◌++◌, subst}
use Rattle.std.specs.Prelude.{OnOk}
use Rattle.serv_line.proofs.TextLemmas.{plain_text}
use Rattle.serv_line.proofs.replies.push_reply.Goals as goal

pub returns-in-Plain-clause-pushed : goal.returns-in-Plain-clause-pushed
returns-in-Plain-clause-pushed c =
    subst (λ (t : List ℕ). OnOk c.push_plain.result (c.push_plain.new.out.items ≡ c.args.out.now.items ++ t))
    (plain_text c.args.reply.now c.in-Plain.is) c.push_plain.ensures.pushed
