-- A reversal that no rule refuses.
use Rattle.std.proofs.Common.{◌≡◌, ℕ, ◌+◌, true, false, cond, List, [], ◌∷◌, refl, sym, ap, subst, ◌∙◌}
use Rattle.std.specs.Prelude.{◌==◌, Option, Some, None, is_some}
use Rattle.std.specs.List.{find}
use Rattle.std.specs.Option.{option_map_or}
use Rattle.std.proofs.lemmas.Bool.Decides.{nat_tests}
use Rattle.std.proofs.Common.{arith}
use Rattle.svc_base.specs.Calendar.{month_of}
use Rattle.svc_types.specs.declared.account.Entry.{Entry}
use Rattle.svc_types.specs.declared.requests.Command.TheVariants as command
use Rattle.svc_spec.specs.Accounts.{Account, entry_of, reverser_of}
use Rattle.period_adjust.specs.Sealed.{State}
use Rattle.svc_world.specs.Held.{Held, find_loan, changed, with_reversal}
use Rattle.svc_world.specs.World.{World, loans_after, seals_after, after}
use Rattle.svc_world.specs.Refusals.{refusal_of, reversal_cases}
use Rattle.svc_world.specs.Changing.{world_with}
use Rattle.svc_world.proofs.NamedLoans.{named_loan, room_enough, asked}
use Rattle.svc_world.proofs.ChangedWorlds.{IsChange}
use Rattle.svc_world.proofs.LoanWorlds.{reversible, reversal_change}
use Rattle.svc_loan.specs.Kept.{KeptLoan}
use Rattle.svc_loan.specs.Loans.{KeptLoans, OfLoan, held_in, closed_in, remitted_in}
use Rattle.svc_loan.proofs.KeptLemmas.{of_found, found_of}
use Rattle.svc_core.specs.State.{world_of, IsState}
use Rattle.svc_core.specs.Costs.{changing_cost, entering_cost, reversing_cost, accepting_cost}
use Rattle.svc_core.proofs.KeptInLemmas.{kept_of, held_found}
use Rattle.svc_core.proofs.ChangingLemmas.{IsChanging, AreChanged, loan_after}

-- an entry that is found has its number
numbered : (number : ℕ) (es : List Entry) (x : Entry) → find (λ (e : Entry). e.number == number) es ≡ Some x → x.number ≡ number
numbered number [] x e = absurd (cc)
numbered number (y ∷ es) x e =
    elim (y.number == number) as (λ v. (y.number == number) ≡ v → cond v (Some y) (find (λ (e : Entry). e.number == number) es) ≡ Some x → x.number ≡ number) [
      | true ↦ λ t is. let same : y ≡ x = cc in let here : y.number ≡ number = grind (arith, nat_tests) in ap (λ (e : Entry). e.number) (sym same) ∙ here
      | false ↦ λ t is. numbered number es x is
    ] refl e

-- a reversal that is not refused, of the loan as it is kept
pub record IsReversing (n today : ℕ) (loans : KeptLoans) (seals : State) (id number : ℕ) : Type 0 where
  pub entry : Entry
  pub number_is : entry.number ≡ number
  pub there : OfLoan id loans.loans (λ k. entry_of k.held.account number ≡ Some entry)
  pub live : OfLoan id loans.loans (λ k. reverser_of k.held.account number ≡ None)
  pub changing : IsChanging n today loans seals id (month_of entry.day) (with_reversal number (n + 1))

pub reversing : (n today : ℕ) (loans : KeptLoans) (seals : State) (id number : ℕ) → IsState n today loans seals → refusal_of n (world_of today loans seals) (command.Reverse id number) ≡ None → IsReversing n today loans seals id number
reversing n today loans seals id number s e =
    let w = world_of today loans seals in
    let q = asked n w id (reversal_cases w number) (command.Reverse id number) refl e in
    let l = q.loan.loan in
    let is = named_loan n w id l s.world q.loan.found in
    let it = reversible w number l q.loan.rest in
    let ch = reversal_change n number w l it.entry is.held it.found in
    let kept = kept_of id loans.loans l q.loan.found in
    record {
      entry = it.entry;
      number_is = numbered number l.account.entries it.entry it.found;
      there = found_of (λ (k : KeptLoan). entry_of k.held.account number ≡ Some it.entry) id loans.loans kept.kept (ap (λ (x : Held). entry_of x.account number) kept.held ∙ it.found) kept.found;
      live = found_of (λ (k : KeptLoan). reverser_of k.held.account number ≡ None) id loans.loans kept.kept (ap (λ (x : Held). reverser_of x.account number) kept.held ∙ it.live) kept.found;
      changing = record {
        state = s;
        few = q.few;
        kept = kept.kept;
        found = kept.found;
        change = subst (λ x. IsChange (n + 1) today (month_of it.entry.day) (with_reversal number (n + 1)) x) (sym kept.held) ch;
        room = room_enough n (month_of it.entry.day) w l s.world is.found ch.since it.room;
      };
    }

pub entry_is_there : {n today : ℕ} {loans : KeptLoans} {seals : State} {id number : ℕ} → IsReversing n today loans seals id number → OfLoan id loans.loans (λ k. is_some (entry_of k.held.account number) ≡ true)
entry_is_there {loans = loans} {id = id} {number = number} r =
    let k = r.changing.kept in
    let mine = of_found (λ (k : KeptLoan). entry_of k.held.account number ≡ Some r.entry) id loans.loans k r.there r.changing.found in
    found_of (λ (k : KeptLoan). is_some (entry_of k.held.account number) ≡ true) id loans.loans k (ap is_some mine) r.changing.found

-- the same for the entry that was found there
pub record IsReversed (n today : ℕ) (loans : KeptLoans) (seals : State) (id number m : ℕ) (e : Entry) : Type 0 where
  pub number_is : e.number ≡ number
  pub there : OfLoan id loans.loans (λ k. entry_of k.held.account e.number ≡ Some e)
  pub live : OfLoan id loans.loans (λ k. reverser_of k.held.account e.number ≡ None)
  pub changing : IsChanging n today loans seals id m (with_reversal number (n + 1))
  pub named : entry_of changing.kept.held.account number ≡ Some e
  pub month : m ≡ month_of e.day

pub reversed : {n today : ℕ} {loans : KeptLoans} {seals : State} {id number : ℕ} (m : ℕ) (e : Entry) → IsReversing n today loans seals id number → OfLoan id loans.loans (λ k. entry_of k.held.account number ≡ Some e) → m ≡ month_of e.day → IsReversed n today loans seals id number m e
reversed {n = n} {today = today} {loans = loans} {seals = seals} {id = id} {number = number} m e r there month =
    let k = r.changing.kept in
    let mine = of_found (λ (k : KeptLoan). entry_of k.held.account number ≡ Some r.entry) id loans.loans k r.there r.changing.found in
    let own = of_found (λ (k : KeptLoan). entry_of k.held.account number ≡ Some e) id loans.loans k there r.changing.found in
    let same : r.entry ≡ e = one (entry_of k.held.account number) r.entry e mine own in
    subst (λ p. IsReversed n today loans seals id number p e) (sym month)
    (subst (λ x. IsReversed n today loans seals id number (month_of x.day) x) same (record {
      number_is = r.number_is;
      there = subst (λ i. OfLoan id loans.loans (λ (k : KeptLoan). entry_of k.held.account i ≡ Some r.entry)) (sym r.number_is) r.there;
      live = subst (λ i. OfLoan id loans.loans (λ (k : KeptLoan). reverser_of k.held.account i ≡ None)) (sym r.number_is) r.live;
      changing = r.changing;
      named = mine;
      month = refl;
    }))
  where
    one : (o : Option Entry) (x y : Entry) → o ≡ Some x → o ≡ Some y → x ≡ y
    one o x y p q = cc

-- the loans after it
pub are_reversed : {n today : ℕ} {loans : KeptLoans} {seals : State} {id number m : ℕ} {e : Entry} (later : KeptLoans) → IsReversed n today loans seals id number m e → held_in later.loans ≡ changed id (with_reversal e.number (n + 1)) (held_in loans.loans) → closed_in later.loans ≡ closed_in loans.loans → remitted_in later.loans ≡ remitted_in loans.loans → AreChanged id (with_reversal number (n + 1)) loans later
are_reversed {n = n} {loans = loans} {id = id} later r held closed remitted = record {
  held = held ∙ ap (λ i. changed id (with_reversal i (n + 1)) (held_in loans.loans)) r.number_is;
  closed = closed;
  remitted = remitted;
}

-- its steps are those of a change from the entry's month on
pub reversed_cost : {n today : ℕ} {loans : KeptLoans} {seals : State} {id number m : ℕ} {e : Entry} (later : KeptLoans) (seals' : State) (cost month_cost : Account → ℕ → ℕ) → IsReversed n today loans seals id number m e → AreChanged id (with_reversal number (n + 1)) loans later → entering_cost cost month_cost (world_of today later seals') id m ≡ accepting_cost cost month_cost (world_of today loans seals) (world_of today later seals') (command.Reverse id number)
reversed_cost {n = n} {today = today} {id = id} {number = number} {m = m} {e = e} later seals' cost month_cost r are =
    let v = world_of today later seals' in
    let a = loan_after later r.changing are in
    let found : find_loan id v.loans ≡ Some (with_reversal number (n + 1) r.changing.kept.held) = held_found id later.loans a.kept a.found ∙ ap Some a.held in
    let l = with_reversal number (n + 1) r.changing.kept.held in
    ap (λ o. option_map_or (changing_cost cost month_cost v m) o 0) found
    ∙ ap (λ p. changing_cost cost month_cost v p l) r.month
    ∙ sym (ap (λ o. option_map_or (reversing_cost cost month_cost v number) o 0) found ∙ ap (λ o. option_map_or (λ (x : Entry). changing_cost cost month_cost v (month_of x.day) l) o 0) r.named)

pub reversed_world : (n id number : ℕ) (w : World) → after (n + 1) w (command.Reverse id number) ≡ world_with w id (with_reversal number (n + 1)) (n + 1)
unfolding after loans_after seals_after
reversed_world n id number w = refl
