use Rattle.custodial_book.specs.declared.part.Part.TheVariants.{Collected, Disbursed, EscrowAdvance, Fee, Late, PiAdvance, Received, Refunded, Remitted, Residual, Returned}
use Rattle.custodial_book.proofs.book.cash.Goals as goal

pub cash_of_t-requires-clause-received : goal.cash_of_t-requires-clause-received
cash_of_t-requires-clause-received c = c.requires Received

pub cash_of_t-requires-clause-escrow_advance : goal.cash_of_t-requires-clause-escrow_advance
cash_of_t-requires-clause-escrow_advance c = c.requires EscrowAdvance

pub cash_of_t-requires-clause-returned : goal.cash_of_t-requires-clause-returned
cash_of_t-requires-clause-returned c = c.requires Returned

pub cash_of_t-requires-clause-refunded : goal.cash_of_t-requires-clause-refunded
cash_of_t-requires-clause-refunded c = c.requires Refunded

pub cash_of_t-requires-clause-disbursed : goal.cash_of_t-requires-clause-disbursed
cash_of_t-requires-clause-disbursed c = c.requires Disbursed

pub cash_of_t-requires-clause-collected : goal.cash_of_t-requires-clause-collected
cash_of_t-requires-clause-collected c = c.requires Collected

pub cash_of_t-requires-clause-late : goal.cash_of_t-requires-clause-late
cash_of_t-requires-clause-late c = c.requires Late

pub cash_of_p-requires-clause-collected : goal.cash_of_p-requires-clause-collected
cash_of_p-requires-clause-collected c = c.requires Collected

pub cash_of_p-requires-clause-pi_advance : goal.cash_of_p-requires-clause-pi_advance
cash_of_p-requires-clause-pi_advance c = c.requires PiAdvance

pub cash_of_p-requires-clause-fee : goal.cash_of_p-requires-clause-fee
cash_of_p-requires-clause-fee c = c.requires Fee

pub cash_of_p-requires-clause-remitted : goal.cash_of_p-requires-clause-remitted
cash_of_p-requires-clause-remitted c = c.requires Remitted

pub cash_of_p-requires-clause-residual : goal.cash_of_p-requires-clause-residual
cash_of_p-requires-clause-residual c = c.requires Residual
