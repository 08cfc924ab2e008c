use Rattle.std.proofs.Common.{◌∙◌, arith}
use Rattle.serv_texts.proofs.WrittenLemmas.{all_lines_of}
use Rattle.serv_texts.proofs.extracts.lines_of.Goals as goal

pub returns : goal.returns
returns c = c.loop-key.invariant ∙ all_lines_of c.loop-key.key-index c.args.commands.now (omega (arith, c.loop-key-test.false))
