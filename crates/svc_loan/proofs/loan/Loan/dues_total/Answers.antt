use Rattle.std.proofs.Common.{map, to_z, of_z, ◌≡◌, vec_len, w64, arith, ap, subst, ◌∙◌}
use Rattle.std.proofs.lemmas.Int.{ints}
use Rattle.std.specs.List.{range_with_len}
use Rattle.svc_base.specs.Sums.{total_by}
use Rattle.svc_types.specs.declared.terms.Terms.{Terms}
use Rattle.remit_types.specs.declared.dues.Carry.{Carry}
use Rattle.svc_world.specs.Held.{boarded_month}
use Rattle.svc_world.specs.Custody.{due_sum}
use Rattle.svc_world.specs.LoanDues.{carried_to, due_of}
use Rattle.svc_world.proofs.CarryLemmas.{account_carry}
use Rattle.svc_loan.specs.Kept.{KeptLoan, held_of}
use Rattle.svc_loan.proofs.ClosedLemmas.{closings_few, cents_same, dues_add_up}
use Rattle.svc_loan.proofs.loan.Loan.dues_total.Goals as goal

pub total_due-requires-clause-sums : goal.total_due-requires-clause-sums
total_due-requires-clause-sums g c =
    let a = g.B.LoanBooks.account c.self.inside.books in
    let types = c.self.inside.types.changes in
    let n = vec_len c.self.inside.carries in
    let few = closings_few a n c.self.invariant.may in
    let fact = (account_carry a types c.len.result (omega (arith, c.len.ensures)) c.is_account.ensures).sums in
    rw c.carry_after-carry.ensures fact

pub total_due-requires-clause-within : goal.total_due-requires-clause-within
total_due-requires-clause-within g c =
    let a = g.B.LoanBooks.account c.self.inside.books in
    let types = c.self.inside.types.changes in
    let n = vec_len c.self.inside.carries in
    let few = closings_few a n c.self.invariant.may in
    let fact = (account_carry a types c.len.result (omega (arith, c.len.ensures)) c.is_account.ensures).within in
    rw (c.terms.ensures, c.carry_after-carry.ensures) fact

pub returns : goal.returns
returns g c =
    let a = g.B.LoanBooks.account c.self.inside.books in
    let types = c.self.inside.types.changes in
    let n = vec_len c.self.inside.carries in
    let l = held_of c.self.inside.id a c.self.inside.lines types in
    let carry = c.carry_after-carry.ensures ∙ ap (carried_to a types) c.len.ensures in
    let whole = c.total_due.ensures.value in
    let terms = ap (λ (t : Terms). t.principal) c.terms.ensures in
    let passed = ap (λ (x : Carry). x.passed) carry in
    let balance = ap (λ (x : Carry). x.balance) carry in
    let sum = dues_add_up l n c.is_account.ensures in
    let same : c.total_due.result ≡ total_by due_sum (map (due_of l) (range_with_len (boarded_month l) n)) = omega (arith, ints) in
    subst (λ (v : KeptLoan). to_z w64 (of_z w64 c.total_due.result) ≡ total_by due_sum (map (due_of v.held) (range_with_len (boarded_month v.held) v.closed))) c.self.view_is (cents_same c.total_due.result c.total_due.ensures.low c.total_due.ensures.high ∙ same)
