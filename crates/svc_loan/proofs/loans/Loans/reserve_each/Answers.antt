use Rattle.std.proofs.Common.{rules, vec_len, ◌≡◌, ◌≤◌, ◌<◌, Box, Global, List, ℕ, map, length, get_or, refl, arith, sym, ap, ◌∙◌}
use Rattle.std.specs.Box.{with_value}
use Rattle.std.proofs.Math.ListN.{set}
use Rattle.std.proofs.lemmas.List.{length-set}
use Rattle.svc_base.specs.Calendar.{month_of as month_number}
use Rattle.svc_loan.specs.Kept.{KeptLoan, IsAhead, HasAmpleRoom}
use Rattle.svc_loan.specs.Loans.{KeptLoans, held_in, closed_in, remitted_in, first_boarded}
use Rattle.svc_loan.proofs.KeptLemmas.{ahead_at}
use Rattle.svc_loan.proofs.EachLemmas.{AllDone, asked_lent, done_rises, replaced_same, rest_more, holds_more, holds_all}
use Rattle.svc_loan.proofs.loans.Loans.reserve_each.Given.{Over}
use Rattle.svc_loan.proofs.loans.Loans.reserve_each.Goals as goal

-- one loan has more room, the others are as they were
one_has_room : (olds news : List (Box KeptLoan Global)) (i : ℕ) (x : Box KeptLoan Global) (k j : KeptLoan) → AllDone (λ (k : KeptLoan). k.held) (λ (k : KeptLoan). k.closed) (map (λ (b : Box KeptLoan Global). b.value) olds) (map (λ (b : Box KeptLoan Global). b.value) news) → k ≡ x.value → x ≡ get_or news i x → j.held ≡ k.held → j.closed ≡ k.closed → j.remitted ≡ k.remitted → AllDone (λ (k : KeptLoan). k.held) (λ (k : KeptLoan). k.closed) (map (λ (b : Box KeptLoan Global). b.value) olds) (map (λ (b : Box KeptLoan Global). b.value) (set news i (with_value x j)))
one_has_room olds news i x k j same lent at held closed remitted =
    let old : k ≡ (get_or news i x).value = lent ∙ ap (λ (b : Box KeptLoan Global). b.value) at in
    replaced_same (λ (b : Box KeptLoan Global). b.value) olds news i x (with_value x j) same (held ∙ ap (λ (y : KeptLoan). y.held) old) (closed ∙ ap (λ (y : KeptLoan). y.closed) old) (remitted ∙ ap (λ (y : KeptLoan). y.remitted) old)

set_err : (g : Over) (c : goal.After-from_residual g) → AllDone (λ (k : KeptLoan). k.held) (λ (k : KeptLoan). k.closed) (map (λ (b : Box KeptLoan Global). b.value) c.self.inside.loans.items) (map (λ (b : Box KeptLoan Global). b.value) (set c.loop-i.self-inside.loans.items c.loop-i.i (with_value c.index_mut-loan.result.now c.reserve_months.new.self)))
set_err g c =
    let e = c.reserve_months.ensures in
    one_has_room c.self.inside.loans.items c.loop-i.self-inside.loans.items c.loop-i.i c.index_mut-loan.result.now c.deref_mut.result.now c.reserve_months.new.self c.loop-i.invariant.same c.deref_mut.ensures.value c.index_mut-loan.ensures.value e.held e.closed e.remitted

set_ok : (g : Over) (c : goal.In_ok-reserve_months g) → AllDone (λ (k : KeptLoan). k.held) (λ (k : KeptLoan). k.closed) (map (λ (b : Box KeptLoan Global). b.value) c.self.inside.loans.items) (map (λ (b : Box KeptLoan Global). b.value) (set c.loop-i.self-inside.loans.items c.loop-i.i (with_value c.index_mut-loan.result.now c.reserve_months.new.self)))
set_ok g c =
    let e = c.reserve_months.ensures in
    one_has_room c.self.inside.loans.items c.loop-i.self-inside.loans.items c.loop-i.i c.index_mut-loan.result.now c.deref_mut.result.now c.reserve_months.new.self c.loop-i.invariant.same c.deref_mut.ensures.value c.index_mut-loan.ensures.value e.held e.closed e.remitted

pub invariant_of-self : goal.invariant_of-self
invariant_of-self g c = record {
  rise = done_rises (λ (k : KeptLoan). k.held) (λ (k : KeptLoan). k.closed) _ _ c.loop-i.invariant.same (λ k. refl) c.self.invariant.rise;
  ahead = c.loop-i.invariant.ahead;
  first = c.loop-i.invariant.first ∙ c.self.invariant.first ∙ sym (ap first_boarded c.loop-i.invariant.same.held);
}

pub invariant_of-self-in_err-reserve_months : goal.invariant_of-self-in_err-reserve_months
invariant_of-self-in_err-reserve_months g c = record {
  rise = done_rises (λ (k : KeptLoan). k.held) (λ (k : KeptLoan). k.closed) _ _ (set_err g c) (λ k. refl) c.self.invariant.rise;
  ahead =
      let inv = c.loop-i.invariant in
      let news = c.loop-i.self-inside.loans.items in
      let lt : c.loop-i.i < length news = (let t = c.loop-i-test.true in let e = inv.end in omega arith) in
      ahead_at (λ (b : Box KeptLoan Global). b.value) c.loop-i.self-inside.until c.loop-i.self-inside.closings news c.loop-i.i c.index_mut-loan.result.now (with_value c.index_mut-loan.result.now c.reserve_months.new.self) c.deref_mut.result.now inv.ahead lt (c.deref_mut.ensures.value ∙ ap (λ (b : Box KeptLoan Global). b.value) c.index_mut-loan.ensures.value) c.reserve_months.ensures.months;
  first = c.loop-i.invariant.first ∙ c.self.invariant.first ∙ sym (ap first_boarded (set_err g c).held);
}

pub returns-in_err-reserve_months-clause-held : goal.returns-in_err-reserve_months-clause-held
returns-in_err-reserve_months-clause-held g c = (set_err g c).held ∙ ap (λ (s : KeptLoans). held_in s.loans) c.self.view_is

pub returns-in_err-reserve_months-clause-closed : goal.returns-in_err-reserve_months-clause-closed
returns-in_err-reserve_months-clause-closed g c = (set_err g c).closed ∙ ap (λ (s : KeptLoans). closed_in s.loans) c.self.view_is

pub returns-in_err-reserve_months-clause-remitted : goal.returns-in_err-reserve_months-clause-remitted
returns-in_err-reserve_months-clause-remitted g c = (set_err g c).remitted ∙ ap (λ (s : KeptLoans). remitted_in s.loans) c.self.view_is

-- a loan that has room does not fail
pub returns-in_err-reserve_months-clause-succeeds : goal.returns-in_err-reserve_months-clause-succeeds
returns-in_err-reserve_months-clause-succeeds g c = λ ample.
    let olds = c.self.inside.loans.items in
    let news = c.loop-i.self-inside.loans.items in
    let old : vec_len c.self.inside.loans ≡ length olds = search rules in
    let new : vec_len c.loop-i.self-inside.loans ≡ length news = search rules in
    let lt : c.loop-i.i < length olds = (let t = c.loop-i-test.true in let e = c.loop-i.invariant.end in let count = c.loop-i.invariant.count in omega (arith, old, new)) in
    let room = asked_lent (HasAmpleRoom (month_number c.args.later) 4) c.args.self.now.loans olds news c.loop-i.i c.index_mut-loan.result.now c.deref_mut.result.now (ap (λ (s : KeptLoans). s.loans) c.self.view_is) ample lt c.loop-i.invariant.rest c.index_mut-loan.ensures.value c.deref_mut.ensures.value in
    let fails = c.in_err-reserve_months.ensures.succeeds room.entry room.reversal room.ahead in
    absurd (cc)

pub loop-i-preserved : goal.loop-i-preserved
loop-i-preserved g c =
    let news = c.loop-i.self-inside.loans.items in
    let i = c.loop-i.i in
    let x = c.index_mut-loan.result.now in
    let inv = c.loop-i.invariant in
    let lt : i < length news = (let t = c.loop-i-test.true in let e = inv.end in omega arith) in
    let count = length-set news i (with_value x c.reserve_months.new.self) in
    record {
      same = set_ok g c;
      rest = rest_more c.self.inside.loans.items news i (with_value x c.reserve_months.new.self) inv.rest;
      ready = holds_more (λ (b : Box KeptLoan Global). b.value) (IsAhead (month_number c.args.later) 4) news i (with_value x c.reserve_months.new.self) lt inv.ready c.in_ok-reserve_months.ensures.ahead;
      ahead = ahead_at (λ (b : Box KeptLoan Global). b.value) c.loop-i.self-inside.until c.loop-i.self-inside.closings news i x (with_value x c.reserve_months.new.self) c.deref_mut.result.now inv.ahead lt (c.deref_mut.ensures.value ∙ ap (λ (b : Box KeptLoan Global). b.value) c.index_mut-loan.ensures.value) c.reserve_months.ensures.months;
      first = inv.first;
      end = inv.end ∙ sym count;
      count = search;
      capacity = search;
    }

pub returns-clause-ready : goal.returns-clause-ready
returns-clause-ready g c =
    let news = c.loop-i.self-inside.loans.items in
    let le : length news ≤ c.loop-i.i = (let t = c.loop-i-test.false in let e = c.loop-i.invariant.end in omega arith) in
    holds_all (λ (b : Box KeptLoan Global). b.value) (IsAhead (month_number c.args.later) 4) news c.loop-i.i le c.loop-i.invariant.ready
