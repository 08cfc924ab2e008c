use Rattle.std.proofs.Common.{arith, sym, ap, ◌∙◌}
use Rattle.std.specs.Prelude.{not}
use Rattle.svc_replay.proofs.PlaceLemmas.{placed_last, placed_alone}
use Rattle.svc_replay.proofs.entries.Live.comes_last.Goals as goal

pub returns-then-len-eq0 : goal.returns-then-len-eq0
returns-then-len-eq0 c = λ is. placed_alone c.args.entry.now c.args.self.now c.len-len.result c.len-len.ensures c.if-len-eq0.true

pub returns-else-len-eq0 : goal.returns-else-len-eq0
returns-else-len-eq0 c = λ is. placed_last c.args.entry.now c.args.self.now c.len-len.result c.at.result c.requires c.len-len.ensures (let some = c.if-len-eq0.false in omega (arith, some)) c.at.ensures (ap not (sym c.before-else-len-eq0.ensures) ∙ is)
