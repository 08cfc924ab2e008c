use Rattle.std.proofs.Common.{◌≡◌, ◌++◌, List, ap, arith, subst, sym, ◌∙◌}
use Rattle.std.proofs.lemmas.Int.{ints, clamps}
use Rattle.custodial_book.specs.declared.part.Account.{Account}
use Rattle.custodial_book.specs.declared.part.Account.TheVariants.{T, P}
use Rattle.custodial_book.specs.declared.row.Row.{Row}
use Rattle.custodial_book.specs.Kept.{Kept}
use Rattle.custodial_book.specs.Rows.{rows_of, balance_of, balance_with, IsBalance}
use Rattle.custodial_book.proofs.CashLemmas.{balance_rows}
use Rattle.custodial_book.proofs.book.Book.append.Goals as goal

-- the balances after the rows of the command
balances : (c : goal.After-add_changes) (account : Account) → balance_of account c.add_changes.new.entries.items ≡ balance_with account c.args.self.now.rows c.args.before.now c.args.after.now
balances c account =
    let rows : c.add_changes.new.entries.items ≡ c.args.self.now.rows ++ rows_of c.args.number c.args.loan c.args.before.now c.args.after.now =
    c.add_changes.ensures.items ∙ ap (λ (rs : List Row). rs ++ rows_of c.args.number c.args.loan c.args.before.now c.args.after.now) (c.make_room.ensures.items ∙ ap (λ (k : Kept). k.rows) c.self.view_is) in
    ap (balance_of account) rows ∙ balance_rows account c.args.self.now.rows c.args.number c.args.loan c.args.before.now c.args.after.now

pub invariant_of-self-2 : goal.invariant_of-self-2
invariant_of-self-2 c =
    let t = balances c T in
    let p = balances c P in
    let t_was : c.self.inside.t ≡ balance_of T c.args.self.now.rows = c.self.invariant.t_is ∙ ap (balance_of T) (ap (λ (k : Kept). k.rows) c.self.view_is) in
    let p_was : c.self.inside.p ≡ balance_of P c.args.self.now.rows = c.self.invariant.p_is ∙ ap (balance_of P) (ap (λ (k : Kept). k.rows) c.self.view_is) in
    record {
      rising = c.add_changes.ensures.rising;
      t_is = omega (arith, ints, clamps, t, t_was, c.cash_change.ensures, c.self.invariant.t_bound);
      p_is = omega (arith, ints, clamps, p, p_was, c.cash_change-2.ensures, c.self.invariant.p_bound);
      t_bound = (omega (arith, ints, clamps, t, t_was, c.cash_change.ensures, c.self.invariant.t_bound, c.requires.t), omega (arith, ints, clamps, t, t_was, c.cash_change.ensures, c.self.invariant.t_bound, c.requires.t));
      p_bound = (omega (arith, ints, clamps, p, p_was, c.cash_change-2.ensures, c.self.invariant.p_bound, c.requires.p), omega (arith, ints, clamps, p, p_was, c.cash_change-2.ensures, c.self.invariant.p_bound, c.requires.p));
    }

pub returns-clause-balances : goal.returns-clause-balances
returns-clause-balances c account = balances c account
