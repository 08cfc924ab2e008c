use Rattle.remit_types.proofs.MonthsLemmas.{due-of_type}
use Rattle.remit_types.proofs.laws.same_type_throughout.Goals as goal

pub returns : goal.returns
returns c t kind m earlier all = due-of_type t kind m earlier all
