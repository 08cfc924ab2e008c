use Rattle.std.proofs.Common.{rules, append_assoc}
use Rattle.std.proofs.lemmas.Result.{IfOk-equal}
use Rattle.bank_recon.specs.Texts.{text_of_sums}
use Rattle.bank_recon.proofs.writing.push_sums.Goals as goal

pub returns : goal.returns
unfolding text_of_sums
returns c = search (rules, IfOk-equal, append_assoc)
