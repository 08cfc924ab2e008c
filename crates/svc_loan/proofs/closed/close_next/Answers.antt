use Rattle.std.proofs.Common.{◌≡◌, ◌+◌, vec_len, length, arith, sym, ap, ◌∙◌}
use Rattle.svc_base.specs.Calendar.{month_of as month_number}
use Rattle.svc_types.specs.declared.terms.Terms.{Terms}
use Rattle.svc_spec.specs.Months.{month_facts}
use Rattle.remit_types.specs.Dues.{carried_after, loan_month}
use Rattle.remit_types.specs.declared.dues.Carry.{Carry}
use Rattle.svc_world.specs.LoanDues.{carried_to, kind_in}
use Rattle.svc_world.proofs.CarryLemmas.{account_carry}
use Rattle.svc_loan.specs.Closed as rule
use Rattle.svc_loan.proofs.ClosedLemmas.{carries_length, closed_more, closings_few}
use Rattle.svc_loan.proofs.closed.close_next.Goals as goal

pub carry_after-carry-requires-clause-carries : goal.carry_after-carry-requires-clause-carries
carry_after-carry-requires-clause-carries g c =
    let a = g.B.LoanBooks.account c.args.books.now in
    let types = c.args.types.now.changes in
    let n = vec_len c.args.carries.now in
    let is = c.deref.ensures.value ∙ c.requires.kept in
    let count : length c.deref.result.now ≡ n = ap length is ∙ carries_length a types n in
    is ∙ ap (rule.carries_to a types) (sym count)

pub carry_after-carry-requires-clause-closed : goal.carry_after-carry-requires-clause-closed
carry_after-carry-requires-clause-closed g c =
    let a = g.B.LoanBooks.account c.args.books.now in
    let n = vec_len c.args.carries.now in
    let count : length c.deref.result.now ≡ n = ap length (c.deref.ensures.value ∙ c.requires.kept) ∙ carries_length a c.args.types.now.changes n in
    omega (arith, count, c.len-closed.ensures)

pub due-requires-clause-carry : goal.due-requires-clause-carry
due-requires-clause-carry g c =
    let a = g.B.LoanBooks.account c.args.books.now in
    let few = closings_few a (vec_len c.args.carries.now + 1) c.requires.may in
    let fact = (account_carry a c.args.types.now.changes c.len-closed.result (omega (arith, c.len-closed.ensures)) c.requires.may.account).within in
    rw (c.terms-terms.ensures, c.carry_after-carry.ensures) fact

pub due-requires-clause-sums : goal.due-requires-clause-sums
due-requires-clause-sums g c =
    let a = g.B.LoanBooks.account c.args.books.now in
    let few = closings_few a (vec_len c.args.carries.now + 1) c.requires.may in
    let fact = (account_carry a c.args.types.now.changes c.len-closed.result (omega (arith, c.len-closed.ensures)) c.requires.may.account).sums in
    rw c.carry_after-carry.ensures fact

pub returns-clause-kept : goal.returns-clause-kept
returns-clause-kept g c =
    let a = g.B.LoanBooks.account c.args.books.now in
    let types = c.args.types.now.changes in
    let n = vec_len c.args.carries.now in
    let terms = c.terms-terms.ensures in
    let month : c.add_months-month.result ≡ month_number a.terms.boarded + n =
    c.add_months-month.ensures ∙ ap (λ m. m + c.len-closed.result) (c.month_of.ensures ∙ ap (λ (t : Terms). month_number t.boarded) terms) ∙ ap (λ k. month_number a.terms.boarded + k) c.len-closed.ensures in
    let before : c.carry_after-carry.result ≡ carried_to a types n = c.carry_after-carry.ensures ∙ ap (carried_to a types) c.len-closed.ensures in
    closed_more a types n c.args.carries.now.items c.push_reserved.new.self.items c.due.new.carry c.requires.kept
    (record {
      facts = c.month-facts.result;
      kind = c.kind_in.result;
      is_facts = c.month-facts.ensures.facts ∙ ap (month_facts a) month;
      is_kind = c.kind_in.ensures ∙ ap (λ (t : Terms). kind_in t types c.add_months-month.result) terms ∙ ap (kind_in a.terms types) month;
      is_carry = c.due.ensures.carry
          ∙ ap (λ (t : Terms). carried_after t c.carry_after-carry.result (loan_month c.kind_in.result c.month-facts.result)) terms
          ∙ ap (λ (x : Carry). carried_after a.terms x (loan_month c.kind_in.result c.month-facts.result)) before;
    })
    c.push_reserved.ensures.items
