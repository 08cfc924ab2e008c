use Rattle.bank_recon.proofs.ReadingLemmas.{answered}
use Rattle.bank_recon.proofs.statement.items.Goals as goal

pub returns-clause-only : goal.returns-clause-only
returns-clause-only c = λ x h. answered c.args.bytes.now c.read_list.result x c.read_list.ensures.read c.read_list.ensures.bad h
