use Rattle.std.proofs.Common.{◌≡◌, ◌<◌, Box, Global, map, length, get_or, refl, arith, sym, ap, ◌∙◌}
use Rattle.std.specs.Box.{with_value}
use Rattle.svc_loan.specs.Kept.{KeptLoan, IsAhead}
use Rattle.svc_loan.specs.Loans.{KeptLoans, MayCloseMonth, closed_by, close_cost, held_in, first_boarded}
use Rattle.svc_loan.proofs.KeptLemmas.{behind, closed_at}
use Rattle.svc_loan.proofs.EachLemmas.{AllDone, one_done, all_done, done_rises, asked_lent, next_old, sum_more}
use Rattle.svc_loan.proofs.loans.Loans.close.Given.{Over}
use Rattle.svc_loan.proofs.loans.Loans.close.Goals as goal

pub close_one-requires : goal.close_one-requires
close_one-requires g c =
    let lt : c.loop-i.i < length c.self.inside.loans.items = (let t = c.loop-i-test.true in let e = c.loop-i.invariant.end in omega arith) in
    asked_lent (MayCloseMonth c.args.month) c.args.self.now.loans c.self.inside.loans.items c.loop-i.self-inside.loans.items c.loop-i.i c.index_mut-loan.result.now c.deref_mut.result.now (ap (λ (s : KeptLoans). s.loans) c.self.view_is) c.requires lt c.loop-i.invariant.done.rest c.index_mut-loan.ensures.value c.deref_mut.ensures.value

pub loop-i-preserved : goal.loop-i-preserved
loop-i-preserved g c =
    let olds = c.self.inside.loans.items in
    let news = c.loop-i.self-inside.loans.items in
    let i = c.loop-i.i in
    let x = c.index_mut-loan.result.now in
    let v : Box KeptLoan Global → KeptLoan = λ b. b.value in
    let old : c.deref_mut.result.now ≡ (get_or news i x).value = c.deref_mut.ensures.value ∙ ap (λ (b : Box KeptLoan Global). b.value) c.index_mut-loan.ensures.value in
    let lt : i < length olds = (let t = c.loop-i-test.true in let e = c.loop-i.invariant.end in omega arith) in
    let e = c.close_one.ensures in
    let inv = c.loop-i.invariant in
    let steps = inv.steps in
    let next = e.steps in
    let more = sum_more v (close_cost g.B.LoanBooks.month_cost c.args.month) olds i x lt in
    let was = asked_lent (IsAhead c.self.inside.until c.self.inside.closings) (behind olds) olds news i x c.deref_mut.result.now refl c.self.invariant.ahead lt inv.done.rest c.index_mut-loan.ensures.value c.deref_mut.ensures.value in
    let cost = ap (close_cost g.B.LoanBooks.month_cost c.args.month) (old ∙ ap v (next_old olds news i x inv.done.rest)) in
    record {
      done = one_done v (λ (k : KeptLoan). k.held) (closed_by c.args.month) olds news i x (with_value x c.close_one.new.loan) lt inv.done
          (e.held ∙ ap (λ (k : KeptLoan). k.held) old)
          (e.closed ∙ ap (closed_by c.args.month) old)
          (e.remitted ∙ ap (λ (k : KeptLoan). k.remitted) old);
      same_until = inv.same_until;
      same_closings = inv.same_closings;
      ahead = closed_at v c.self.inside.until c.self.inside.closings c.saturating_sub-self-inside.result news i (with_value x c.close_one.new.loan) c.deref_mut.result.now inv.ahead c.saturating_sub-self-inside.ensures was e.months;
      first = inv.first;
      end = inv.end;
      count = search;
      capacity = search;
      steps = omega arith;
    }

all : (g : Over) (c : goal.After-loop-i g) → AllDone (λ (k : KeptLoan). k.held) (closed_by c.args.month) (map (λ (b : Box KeptLoan Global). b.value) c.self.inside.loans.items) (map (λ (b : Box KeptLoan Global). b.value) c.loop-i.self-inside.loans.items)
all g c =
    let inv = c.loop-i.invariant in
    all_done (λ (b : Box KeptLoan Global). b.value) (λ (k : KeptLoan). k.held) (closed_by c.args.month) c.self.inside.loans.items c.loop-i.self-inside.loans.items c.loop-i.i (let t = c.loop-i-test.false in let e = inv.end in omega arith) inv.done

pub invariant_of-self : goal.invariant_of-self
invariant_of-self g c = record {
  rise = done_rises (λ (k : KeptLoan). k.held) (closed_by c.args.month) _ _ (all g c) (λ k. refl) c.self.invariant.rise;
  ahead = rw (c.loop-i.invariant.same_until, c.loop-i.invariant.same_closings) c.loop-i.invariant.ahead;
  first = c.loop-i.invariant.first ∙ c.self.invariant.first ∙ sym (ap first_boarded (all g c).held);
}

pub returns-clause-held : goal.returns-clause-held
returns-clause-held g c = (all g c).held ∙ ap (λ (s : KeptLoans). held_in s.loans) c.self.view_is

pub returns-clause-closed : goal.returns-clause-closed
returns-clause-closed g c = (all g c).closed ∙ ap (λ (s : KeptLoans). map (closed_by c.args.month) s.loans) c.self.view_is
