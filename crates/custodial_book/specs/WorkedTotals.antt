-- Totals of a loan before and after commands whose rows are worked out by hand, in cents.
use Rattle.std.specs.Prelude.{pos}
use Rattle.custodial_book.specs.declared.row.Totals.{Totals}

abbrev pub no_totals : Totals
no_totals = record {
  received = pos 0;
  returned = pos 0;
  refunded = pos 0;
  disbursed = pos 0;
  collected = pos 0;
  fee = pos 0;
  late = pos 0;
  pi_advance = pos 0;
  escrow_advance = pos 0;
  remitted = pos 0;
  residual = pos 0;
}

-- a first payment of 1,199.10, its interest and principal remitted; then the next month's remitted ahead
abbrev pub paid : Totals
paid = record no_totals { received = pos 119910; collected = pos 119910; fee = pos 4167 }

abbrev pub remitted_once : Totals
remitted_once = record paid { remitted = pos 115743 }

abbrev pub remitted_ahead : Totals
remitted_ahead = record paid { pi_advance = pos 115747; remitted = pos 231490 }

-- a payoff of 200,300.40 that is remitted, and the same after the payoff was reversed
abbrev pub paid_off : Totals
paid_off = record no_totals { received = pos 20149950; collected = pos 20149950; fee = pos 6248 }

abbrev pub payoff_remitted : Totals
payoff_remitted = record paid_off { remitted = pos 20095833; residual = pos 47869 }

abbrev pub payoff_reversed : Totals
payoff_reversed = record no_totals {
  received = pos 20149950;
  returned = pos 20030040;
  collected = pos 119910;
  fee = pos 4167;
  pi_advance = pos 19980090;
  remitted = pos 20095833;
}

-- an escrow account that takes in 1,500.00, pays out 2,000.00, and takes in 600.00; another has 300.00
abbrev pub deposited : Totals
deposited = record no_totals { received = pos 150000 }

abbrev pub disbursed_beyond : Totals
disbursed_beyond = record deposited { disbursed = pos 200000; escrow_advance = pos 50000 }

abbrev pub advance_recovered : Totals
advance_recovered = record deposited { received = pos 210000; disbursed = pos 200000 }

abbrev pub another_deposited : Totals
another_deposited = record no_totals { received = pos 30000 }
