use Rattle.std.proofs.Common.{◌≡◌, ◌+◌, ◌≤◌, ◌<◌, Box, Global, map, length, get_or, refl, arith, sym, ap, ◌∙◌}
use Rattle.std.specs.Box.{with_value}
use Rattle.svc_base.specs.Calendar.{month_of as month_number}
use Rattle.svc_world.specs.Held.{on_day}
use Rattle.svc_loan.specs.Kept.{KeptLoan}
use Rattle.svc_loan.specs.Loans.{KeptLoans, advance_cost, held_in, first_boarded}
use Rattle.svc_loan.proofs.FirstLemmas.{first_mapped}
use Rattle.svc_loan.proofs.KeptLemmas.{ahead_at}
use Rattle.svc_loan.proofs.EachLemmas.{AllDone, one_done, all_done, done_rises, asked_lent, next_old, held_mapped, sum_more}
use Rattle.svc_loan.proofs.loans.Loans.advance.Given.{Over}
use Rattle.svc_loan.proofs.loans.Loans.advance.Goals as goal

pub advance-requires-clause-later : goal.advance-requires-clause-later
advance-requires-clause-later g c =
    let lt : c.loop-i.i < length c.self.inside.loans.items = (let t = c.loop-i-test.true in let e = c.loop-i.invariant.end in omega arith) in
    asked_lent (λ (k : KeptLoan). k.held.account.today ≤ c.args.today) c.args.self.now.loans c.self.inside.loans.items c.loop-i.self-inside.loans.items c.loop-i.i c.index_mut-loan.result.now c.deref_mut.result.now (ap (λ (s : KeptLoans). s.loans) c.self.view_is) c.requires.later lt c.loop-i.invariant.done.rest c.index_mut-loan.ensures.value c.deref_mut.ensures.value

pub advance-requires-clause-room : goal.advance-requires-clause-room
advance-requires-clause-room g c =
    let lt : c.loop-i.i < length c.self.inside.loans.items = (let t = c.loop-i-test.true in let e = c.loop-i.invariant.end in omega arith) in
    asked_lent (λ (k : KeptLoan). month_number c.args.today ≤ month_number k.held.account.today + k.room.books.months) c.args.self.now.loans c.self.inside.loans.items c.loop-i.self-inside.loans.items c.loop-i.i c.index_mut-loan.result.now c.deref_mut.result.now (ap (λ (s : KeptLoans). s.loans) c.self.view_is) c.requires.room lt c.loop-i.invariant.done.rest c.index_mut-loan.ensures.value c.deref_mut.ensures.value

pub loop-i-preserved : goal.loop-i-preserved
loop-i-preserved g c =
    let olds = c.self.inside.loans.items in
    let news = c.loop-i.self-inside.loans.items in
    let i = c.loop-i.i in
    let x = c.index_mut-loan.result.now in
    let v : Box KeptLoan Global → KeptLoan = λ b. b.value in
    let old : c.deref_mut.result.now ≡ (get_or news i x).value = c.deref_mut.ensures.value ∙ ap (λ (b : Box KeptLoan Global). b.value) c.index_mut-loan.ensures.value in
    let lt : i < length olds = (let t = c.loop-i-test.true in let e = c.loop-i.invariant.end in omega arith) in
    let e = c.advance.ensures in
    let inv = c.loop-i.invariant in
    let steps = inv.steps in
    let next = e.steps in
    let more = sum_more v (advance_cost g.B.LoanBooks.cost c.args.today) olds i x lt in
    let from_old = old ∙ ap v (next_old olds news i x inv.done.rest) in
    let cost : g.B.LoanBooks.cost c.advance.new.self.held.account (month_number c.deref_mut.result.now.held.account.today) ≡ advance_cost g.B.LoanBooks.cost c.args.today (v (get_or olds i x)) =
    ap (λ (l : _). g.B.LoanBooks.cost l.account (month_number c.deref_mut.result.now.held.account.today)) e.held ∙ ap (λ (k : KeptLoan). advance_cost g.B.LoanBooks.cost c.args.today k) from_old in
    record {
      done = one_done v (λ (k : KeptLoan). on_day c.args.today k.held) (λ (k : KeptLoan). k.closed) olds news i x (with_value x c.advance.new.self) lt inv.done
          (e.held ∙ ap (λ (k : KeptLoan). on_day c.args.today k.held) old)
          (e.closed ∙ ap (λ (k : KeptLoan). k.closed) old)
          (e.remitted ∙ ap (λ (k : KeptLoan). k.remitted) old);
      ahead = ahead_at v c.loop-i.self-inside.until c.loop-i.self-inside.closings news i x (with_value x c.advance.new.self) c.deref_mut.result.now inv.ahead (let same = inv.done.count in omega arith) old e.months;
      first = inv.first;
      end = inv.end;
      count = search;
      capacity = search;
      steps = omega arith;
    }

all : (g : Over) (c : goal.After-loop-i g) → AllDone (λ (k : KeptLoan). on_day c.args.today k.held) (λ (k : KeptLoan). k.closed) (map (λ (b : Box KeptLoan Global). b.value) c.self.inside.loans.items) (map (λ (b : Box KeptLoan Global). b.value) c.loop-i.self-inside.loans.items)
all g c =
    let inv = c.loop-i.invariant in
    all_done (λ (b : Box KeptLoan Global). b.value) (λ (k : KeptLoan). on_day c.args.today k.held) (λ (k : KeptLoan). k.closed) c.self.inside.loans.items c.loop-i.self-inside.loans.items c.loop-i.i (let t = c.loop-i-test.false in let e = inv.end in omega arith) inv.done

pub invariant_of-self : goal.invariant_of-self
invariant_of-self g c = record {
  rise = done_rises (λ (k : KeptLoan). on_day c.args.today k.held) (λ (k : KeptLoan). k.closed) _ _ (all g c) (λ k. refl) c.self.invariant.rise;
  ahead = c.loop-i.invariant.ahead;
  first = c.loop-i.invariant.first ∙ c.self.invariant.first ∙ sym (ap first_boarded ((all g c).held ∙ held_mapped (on_day c.args.today) _) ∙ first_mapped (on_day c.args.today) _ (λ l. refl));
}

pub returns-clause-held : goal.returns-clause-held
returns-clause-held g c = (all g c).held ∙ held_mapped (on_day c.args.today) _ ∙ ap (λ (s : KeptLoans). map (on_day c.args.today) (held_in s.loans)) c.self.view_is
