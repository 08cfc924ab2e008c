use Rattle.std.proofs.Common.{arith}
use Rattle.servicing_transfer.proofs.loan_numbers.with_loan.Goals as goal

pub insert-requires : goal.insert-requires
insert-requires g c = let within = c.place_for-place.ensures.within in let len = c.deref.ensures.len in omega (arith, within, len)
