-- The numbers that a history boards are those of its loans; and its rows are those of its commands.
use Rattle.std.proofs.Common.{◌≡◌, ℕ, suc, ◌+◌, true, false, List, [], ◌∷◌, refl, sym, ap, ◌∙◌}
use Rattle.std.specs.Prelude.{nat_lt, fold, if◌then◌else◌}
use Rattle.std.specs.List.{insert}
use Rattle.svc_types.specs.declared.account.Act.TheVariants as act
use Rattle.svc_types.specs.declared.requests.Command.{Command}
use Rattle.svc_types.specs.declared.requests.Command.TheVariants as command
use Rattle.svc_world.specs.Held.{Held, boarded, with_entry, with_reversal, on_day, with_bill, without_bill, with_type, with_loan}
use Rattle.svc_world.specs.LoanDues.{type_change}
use Rattle.svc_world.specs.World.{World, Accepted, entry, with_analysis, first_world, loans_after, after, world_from, world}
use Rattle.svc_world.proofs.LoanListLemmas.{numbers_of, changed_numbers, mapped_numbers}
use Rattle.servicing_transfer.specs.Numbers.{place_for, numbers_after, loans_of}

insert_first : (n x : ℕ) (xs : List ℕ) → insert (x ∷ xs) 0 n ≡ n ∷ x ∷ xs
insert_first n x xs = refl

insert_next : (n x p : ℕ) (xs : List ℕ) → insert (x ∷ xs) (suc p) n ≡ x ∷ insert xs p n
insert_next n x p xs = refl

with_loan_numbers : (l : Held) (ls : List Held) → numbers_of (with_loan l ls) ≡ insert (numbers_of ls) (place_for l.id (numbers_of ls)) l.id
with_loan_numbers l [] = refl
with_loan_numbers l (k ∷ ks) =
    let rest = with_loan_numbers l ks in
    elim (nat_lt l.id k.id) as (λ v. numbers_of (if v then l ∷ k ∷ ks else k ∷ with_loan l ks) ≡ insert (k.id ∷ numbers_of ks) (if v then 0 else suc (place_for l.id (numbers_of ks))) l.id) [
      | true ↦ sym (insert_first l.id k.id (numbers_of ks))
      | false ↦ ap (λ ns. k.id ∷ ns) rest ∙ sym (insert_next l.id k.id (place_for l.id (numbers_of ks)) (numbers_of ks))
    ]

numbers_step : (n today : ℕ) (loans : List Held) (c : Command) → numbers_of (loans_after n today loans c) ≡ numbers_after (numbers_of loans) c
unfolding loans_after
numbers_step n today loans (command.Day d) = mapped_numbers (on_day d) loans (λ k. refl)
numbers_step n today loans (command.Board id t) = with_loan_numbers (boarded id t today) loans
numbers_step n today loans (command.Pay id d c over) = changed_numbers id (with_entry (entry n d (act.Pay c over))) loans (λ k. refl)
numbers_step n today loans (command.Curtail id d c) = changed_numbers id (with_entry (entry n d (act.Curtail c))) loans (λ k. refl)
numbers_step n today loans (command.Payoff id d c) = changed_numbers id (with_entry (entry n d (act.Payoff c))) loans (λ k. refl)
numbers_step n today loans (command.Deposit id d c) = changed_numbers id (with_entry (entry n d (act.Deposit c))) loans (λ k. refl)
numbers_step n today loans (command.Disburse id d c line) = changed_numbers id (with_entry (entry n d (act.Disburse c line))) loans (λ k. refl)
numbers_step n today loans (command.Refund id c) = changed_numbers id (with_entry (entry n today (act.Refund c))) loans (λ k. refl)
numbers_step n today loans (command.Waive id c) = changed_numbers id (with_entry (entry n today (act.Waive c))) loans (λ k. refl)
numbers_step n today loans (command.Reverse id number) = changed_numbers id (with_reversal number n) loans (λ k. refl)
numbers_step n today loans (command.Line id line kind month every c) = changed_numbers id (with_bill (record { id = line; kind = kind; month = month; every = every; cents = c })) loans (λ k. refl)
numbers_step n today loans (command.Drop id line) = changed_numbers id (without_bill line) loans (λ k. refl)
numbers_step n today loans (command.Analyse id plan) = changed_numbers id (with_analysis n today plan) loans (λ k. refl)
numbers_step n today loans (command.Close p) = refl
numbers_step n today loans (command.Remit p) = refl
numbers_step n today loans (command.Retype id from kind) = changed_numbers id (with_type (type_change from kind)) loans (λ k. refl)

abbrev step : List ℕ → Accepted → List ℕ
step ns a = numbers_after ns a.command

numbers_from : (n : ℕ) (w : World) (more : List Accepted) → fold step (numbers_of w.loans) more ≡ numbers_of (world_from n w more).loans
unfolding world_from after
numbers_from n w [] = refl
numbers_from n w (a ∷ more) =
    ap (λ ns. fold step ns more) (sym (numbers_step (n + 1) w.today w.loans a.command))
    ∙ numbers_from (n + 1) (after (n + 1) w a.command) more

-- the numbers that a history boards, each in its place, are those of its loans
pub loans_are : (h : List Accepted) → loans_of h ≡ numbers_of (world h).loans
loans_are h = numbers_from 0 first_world h
