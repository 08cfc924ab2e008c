use Rattle.std.proofs.Common.{◌≡◌, ◌≤◌, Box, Global, map, length, sym, ap, subst, ◌∙◌}
use Rattle.std.specs.Prelude.{None, Some, nat_lt, true, false}
use Rattle.std.specs.List.{insert}
use Rattle.std.specs.List.Sorted.{IsPartitionPoint}
use Rattle.svc_base.specs.Calendar.{month_of}
use Rattle.svc_types.specs.declared.terms.Terms.{Terms}
use Rattle.svc_world.specs.Held.{with_loan, boarded_month}
use Rattle.svc_loan.specs.Kept.{KeptLoan}
use Rattle.svc_loan.specs.Loans.{KeptLoans, Rise, IsPlaceIn, find_kept, with_kept, held_in, first_boarded, earlier_of}
use Rattle.svc_loan.proofs.FirstLemmas.{first_with}
use Rattle.svc_loan.proofs.KeptLemmas.{none_ahead, placed_kept, placed_there, with_rises, with_held}
use Rattle.svc_loan.proofs.loans.Loans.insert.Given.{Over}
use Rattle.svc_loan.proofs.loans.Loans.insert.Goals as goal

none : (g : Over) (c : goal.In-Ok g) → find_kept c.args.loan.value.held.id (map (λ (b : Box KeptLoan Global). b.value) c.self.inside.loans.items) ≡ None
none g c = ap (λ (s : KeptLoans). find_kept c.args.loan.value.held.id s.loans) c.self.view_is ∙ c.requires.new

placed : (g : Over) (c : goal.In-Ok g) → map (λ (b : Box KeptLoan Global). b.value) c.insert.new.self.items ≡ with_kept c.args.loan.value (map (λ (b : Box KeptLoan Global). b.value) c.self.inside.loans.items)
placed g c =
    let xs = c.self.inside.loans.items in
    let i = c.place_for-index.result in
    let x = c.args.loan in
    let n = x.value.held.id in
    let number : c.id-id.result ≡ n = c.id-id.ensures ∙ ap (λ (k : KeptLoan). k.held.id) c.deref.ensures in
    let at = c.place_for-index.ensures.point in
    let behind : IsPartitionPoint (λ (b : Box KeptLoan Global). nat_lt b.value.held.id c.id-id.result ≡ true) (λ (b : Box KeptLoan Global). nat_lt b.value.held.id c.id-id.result ≡ false) xs i = subst (λ ys. IsPartitionPoint (λ (b : Box KeptLoan Global). nat_lt b.value.held.id c.id-id.result ≡ true) (λ (b : Box KeptLoan Global). nat_lt b.value.held.id c.id-id.result ≡ false) ys i) c.deref-2.ensures.value at in
    let point : IsPartitionPoint (λ (b : Box KeptLoan Global). nat_lt b.value.held.id n ≡ true) (λ (b : Box KeptLoan Global). nat_lt b.value.held.id n ≡ false) xs i = subst (λ m. IsPartitionPoint (λ (b : Box KeptLoan Global). nat_lt b.value.held.id m ≡ true) (λ (b : Box KeptLoan Global). nat_lt b.value.held.id m ≡ false) xs i) number behind in
    let le : i ≤ length xs = subst (λ ys. i ≤ length ys) c.deref-2.ensures.value c.place_for-index.ensures.bound in
    ap (map (λ (b : Box KeptLoan Global). b.value)) c.in-Ok.ensures.items ∙ placed_kept (λ (b : Box KeptLoan Global). b.value) xs i x le point (none g c)

-- the first boarded month is that of the loans with the new one
first_is : (g : Over) (c : goal.In-Ok g) → Some c.earlier_of-first.result ≡ first_boarded (held_in (map (λ (b : Box KeptLoan Global). b.value) c.insert.new.self.items))
first_is g c =
    let olds = map (λ (b : Box KeptLoan Global). b.value) c.self.inside.loans.items in
    let l = c.args.loan.value.held in
    let boarded : c.month_of-boarded.result ≡ boarded_month l = c.month_of-boarded.ensures ∙ ap (λ (t : Terms). month_of t.boarded) c.terms.ensures ∙ ap (λ (k : KeptLoan). boarded_month k.held) c.deref-3.ensures in
    ap Some (c.earlier_of-first.ensures ∙ ap (earlier_of c.self.inside.first) boarded)
    ∙ ap (λ o. Some (earlier_of o (boarded_month l))) c.self.invariant.first
    ∙ sym (first_with l (held_in olds))
    ∙ sym (ap first_boarded (ap held_in (placed g c) ∙ with_held c.args.loan.value olds))

pub invariant_of-self : goal.invariant_of-self
invariant_of-self g c = record {
  rise = subst Rise (sym (placed g c)) (with_rises c.args.loan.value (map (λ (b : Box KeptLoan Global). b.value) c.self.inside.loans.items) c.self.invariant.rise (none g c));
  ahead = none_ahead (map (λ (b : Box KeptLoan Global). b.value) c.insert.new.self.items);
  first = first_is g c;
}

pub returns-clause-loans : goal.returns-clause-loans
returns-clause-loans g c = placed g c ∙ ap (λ (s : KeptLoans). with_kept c.args.loan.value s.loans) c.self.view_is

pub returns-clause-held : goal.returns-clause-held
returns-clause-held g c = ap held_in (placed g c) ∙ with_held c.args.loan.value (map (λ (b : Box KeptLoan Global). b.value) c.self.inside.loans.items) ∙ ap (λ (s : KeptLoans). with_loan c.args.loan.value.held (held_in s.loans)) c.self.view_is

pub returns-clause-id : goal.returns-clause-id
returns-clause-id g c = c.id-id.ensures ∙ ap (λ (k : KeptLoan). k.held.id) c.deref.ensures

pub returns-clause-place : goal.returns-clause-place
returns-clause-place g c =
    let v : Box KeptLoan Global → KeptLoan = λ b. b.value in
    let xs = c.self.inside.loans.items in
    let i = c.place_for-index.result in
    let x = c.args.loan in
    let number : c.id-id.result ≡ x.value.held.id = c.id-id.ensures ∙ ap (λ (k : KeptLoan). k.held.id) c.deref.ensures in
    let le : i ≤ length xs = subst (λ ys. i ≤ length ys) c.deref-2.ensures.value c.place_for-index.ensures.bound in
    let made : c.insert.new.self.items ≡ insert xs i x = c.in-Ok.ensures.items in
    let rise : Rise (map v c.insert.new.self.items) = subst Rise (sym (placed g c)) (with_rises x.value (map v xs) c.self.invariant.rise (none g c)) in
    let there = placed_there v xs i x le (subst (λ ys. Rise (map v ys)) made rise) in
    subst (λ n. IsPlaceIn n (map v c.insert.new.self.items) (Some i)) (sym number) (subst (λ ys. IsPlaceIn x.value.held.id (map v ys) (Some i)) (sym made) there)
