use Rattle.std.proofs.lemmas.Bool.Decides.{Decides-at}
use Rattle.custodial_book.proofs.SameLemmas.{decides_totals}
use Rattle.custodial_book.proofs.book.are_same.Goals as goal

pub returns : goal.returns
returns c = Decides-at _ _ c.eq.ensures (decides_totals c.args.before.now c.args.after.now)
