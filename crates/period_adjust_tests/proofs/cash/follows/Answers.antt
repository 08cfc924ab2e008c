use Rattle.custodial_book.specs.declared.part.Account.TheVariants.{T, P}
use Rattle.period_adjust_tests.proofs.CashLemmas.{comes_next, small_totals, balance_near, more_up_to}
use Rattle.period_adjust_tests.specs.Cash.{IsLow}
use Rattle.custodial_book.specs.Rows.{balance_of}
use Rattle.std.proofs.Common.{rules}
use Rattle.period_adjust_tests.proofs.cash.follows.Goals as goal

pub append-requires-clause-next : goal.append-requires-clause-next
append-requires-clause-next c = comes_next c.args.book.now.rows c.args.change.now.number c.args.change.now.loan c.requires

pub append-requires-clause-before : goal.append-requires-clause-before
append-requires-clause-before c = small_totals c.totals-before.result c.totals-before.ensures

pub append-requires-clause-after : goal.append-requires-clause-after
append-requires-clause-after c = small_totals c.totals-after.result c.totals-after.ensures

pub append-requires-clause-t : goal.append-requires-clause-t
append-requires-clause-t c =
    let low : IsLow (balance_of T c.args.book.now.rows) = search rules in
    balance_near T c.args.book.now.rows c.totals-before.result c.totals-after.result c.totals-before.ensures c.totals-after.ensures low

pub append-requires-clause-p : goal.append-requires-clause-p
append-requires-clause-p c =
    let low : IsLow (balance_of P c.args.book.now.rows) = search rules in
    balance_near P c.args.book.now.rows c.totals-before.result c.totals-after.result c.totals-before.ensures c.totals-after.ensures low

pub returns : goal.returns
returns c = more_up_to c.args.book.now.rows c.append.new.self.rows c.args.change.now.number c.args.change.now.loan c.totals-before.result c.totals-after.result c.requires c.in_ok-append.ensures.ok
