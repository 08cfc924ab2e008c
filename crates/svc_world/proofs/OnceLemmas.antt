-- Over every history no entry is reversed twice, and each is reversed by a command after its own.
use Rattle.std.proofs.Common.{◌≡◌, ℕ, ◌+◌, ◌≤◌, ◌<◌, true, false, List, [], ◌∷◌, arith, refl, subst}
use Rattle.std.specs.Prelude.{◌≢◌, ◌==◌, Some, None, if◌then◌else◌}
use Rattle.std.specs.List.{All, find}
use Rattle.std.specs.Option.{option_map}
use Rattle.std.proofs.lemmas.Bool.Decides.{nat_tests}
use Rattle.std.proofs.lemmas.List.Elements.{All-cons, All-head, All-tail, All-push, All-map, All-nil}
use Rattle.std.proofs.lemmas.List.Quantifiers.{all_pairs_push}
use Rattle.svc_types.specs.declared.account.Entry.{Entry}
use Rattle.svc_types.specs.declared.account.Act.TheVariants as act
use Rattle.svc_types.specs.declared.requests.Command.{Command}
use Rattle.svc_types.specs.declared.requests.Command.TheVariants as command
use Rattle.svc_spec.specs.Accounts.{entry_of, reverser_of}
use Rattle.svc_world.specs.Held.{Held, boarded, changed, with_entry, with_reversal, on_day, with_bill, without_bill, with_type}
use Rattle.svc_world.specs.LoanDues.{type_change}
use Rattle.svc_world.specs.World.{World, Accepted, first_world, entry, with_analysis, loans_after, after, world_from, world}
use Rattle.svc_world.specs.Refusals.{refusal_of, reversal_cases}
use Rattle.svc_world.specs.Judging.{IsHistory}
use Rattle.svc_world.specs.Worlds.{IsHeld, IsWorld}
use Rattle.svc_world.specs.Laws.{IsReversedOnce}
use Rattle.svc_world.proofs.LoanListLemmas.{found_all, changed_all, with_loan_all}
use Rattle.svc_world.proofs.NamedLoans.{named_loan, asked}
use Rattle.svc_world.proofs.LoanWorlds.{reversible, find_all}
use Rattle.svc_world.proofs.HistoryLemmas.{accepted_keeps, first_is_world, AreAccepted, history_accepted}

-- ---- one more reversal

-- what reversed none of some entries names none of them
unnamed : (number : ℕ) (rs : List (ℕ × ℕ)) → option_map (λ (r : ℕ × ℕ). r.1) (find (λ (r : ℕ × ℕ). r.0 == number) rs) ≡ None → All (λ (r : ℕ × ℕ). r.0 ≢ number) rs
unnamed number [] h = All-nil (λ (r : ℕ × ℕ). r.0 ≢ number)
unnamed number (r ∷ rs) h =
    elim (r.0 == number) as (λ v. (r.0 == number) ≡ v → option_map (λ (r : ℕ × ℕ). r.1) (if v then Some r else find (λ (r : ℕ × ℕ). r.0 == number) rs) ≡ None → All (λ (r : ℕ × ℕ). r.0 ≢ number) (r ∷ rs)) [
      | true ↦ λ same none. absurd (cc)
      | false ↦ λ other none. All-cons (λ (r : ℕ × ℕ). r.0 ≢ number) r rs (λ same. absurd (grind (arith, nat_tests))) (unnamed number rs none)
    ] refl h

-- an entry that is found under a number has it
found_number : (number : ℕ) (es : List Entry) (x : Entry) → find (λ (e : Entry). e.number == number) es ≡ Some x → x.number ≡ number
found_number number [] x h = absurd (cc)
found_number number (e ∷ es) x h =
    elim (e.number == number) as (λ v. (e.number == number) ≡ v → (if v then Some e else find (λ (e : Entry). e.number == number) es) ≡ Some x → x.number ≡ number) [
      | true ↦ λ same is. let has : e.number ≡ number = grind (arith, nat_tests) in let ex : e ≡ x = cc in subst (λ (y : Entry). y.number ≡ number) ex has
      | false ↦ λ other is. found_number number es x is
    ] refl h

reversed_once : (n number : ℕ) (w : World) (l : Held) (x : Entry) → IsHeld n w.today l → entry_of l.account number ≡ Some x → reverser_of l.account number ≡ None → IsReversedOnce l → IsReversedOnce (with_reversal number (n + 1) l)
reversed_once n number w l x h found live once =
    let apart = unnamed number l.account.reversals live in
    let few : x.number ≤ n = find_all (λ (e : Entry). e.number ≤ n) (λ (e : Entry). e.number == number) l.account.entries x found h.numbers in
    let same = found_number number l.account.entries x found in
    record {
      once = all_pairs_push (λ (r s : ℕ × ℕ). r.0 ≢ s.0) l.account.reversals (number, n + 1) once.once apart;
      later = All-push (λ (r : ℕ × ℕ). r.0 < r.1) l.account.reversals (number, n + 1) once.later (omega (arith, few, same));
    }

-- ---- one more command

-- a change of one loan that leaves its reversals
stays_once : (id : ℕ) (f : Held → Held) (ls : List Held) → ((k : Held) → IsReversedOnce k → IsReversedOnce (f k)) → All IsReversedOnce ls → All IsReversedOnce (changed id f ls)
stays_once id f [] keeps h = h
stays_once id f (l ∷ ls) keeps h =
    let here = All-head IsReversedOnce l ls h in
    let rest = All-tail IsReversedOnce l ls h in
    elim (l.id == id) as (λ v. All IsReversedOnce (if v then f l ∷ ls else l ∷ changed id f ls)) [
      | true ↦ All-cons IsReversedOnce (f l) ls (keeps l here) rest
      | false ↦ All-cons IsReversedOnce l (changed id f ls) here (stays_once id f ls keeps rest)
    ]

reverse_once : (n id number : ℕ) (w : World) → IsWorld n w → refusal_of n w (command.Reverse id number) ≡ None → All IsReversedOnce w.loans → All IsReversedOnce (changed id (with_reversal number (n + 1)) w.loans)
reverse_once n id number w h e once =
    let q = asked n w id (reversal_cases w number) (command.Reverse id number) refl e in
    let l = q.loan.loan in
    let it = reversible w number l q.loan.rest in
    let both : (k : Held) → IsReversedOnce k → IsReversedOnce k = λ k o. o in
    changed_all IsReversedOnce IsReversedOnce id (with_reversal number (n + 1)) w.loans l q.loan.found once both
    (reversed_once n number w l it.entry (named_loan n w id l h q.loan.found).held it.found it.live (found_all IsReversedOnce id w.loans l q.loan.found once))

once_after : (n : ℕ) (w : World) (c : Command) → IsWorld n w → refusal_of n w c ≡ None → All IsReversedOnce w.loans → All IsReversedOnce (after (n + 1) w c).loans
unfolding after loans_after
once_after n w (command.Day d) h e once = All-map IsReversedOnce (on_day d) w.loans once
once_after n w (command.Board id t) h e once = with_loan_all IsReversedOnce (boarded id t w.today) w.loans (record { once = λ i j x lt len. absurd (omega arith); later = All-nil (λ (r : ℕ × ℕ). r.0 < r.1) }) once
once_after n w (command.Pay id d c over) h e once = stays_once id (with_entry (entry (n + 1) d (act.Pay c over))) w.loans (λ k o. o) once
once_after n w (command.Curtail id d c) h e once = stays_once id (with_entry (entry (n + 1) d (act.Curtail c))) w.loans (λ k o. o) once
once_after n w (command.Payoff id d c) h e once = stays_once id (with_entry (entry (n + 1) d (act.Payoff c))) w.loans (λ k o. o) once
once_after n w (command.Deposit id d c) h e once = stays_once id (with_entry (entry (n + 1) d (act.Deposit c))) w.loans (λ k o. o) once
once_after n w (command.Disburse id d c line) h e once = stays_once id (with_entry (entry (n + 1) d (act.Disburse c line))) w.loans (λ k o. o) once
once_after n w (command.Refund id c) h e once = stays_once id (with_entry (entry (n + 1) w.today (act.Refund c))) w.loans (λ k o. o) once
once_after n w (command.Waive id c) h e once = stays_once id (with_entry (entry (n + 1) w.today (act.Waive c))) w.loans (λ k o. o) once
once_after n w (command.Reverse id number) h e once = reverse_once n id number w h e once
once_after n w (command.Line id line kind month every c) h e once = stays_once id (with_bill (record { id = line; kind = kind; month = month; every = every; cents = c })) w.loans (λ k o. o) once
once_after n w (command.Drop id line) h e once = stays_once id (without_bill line) w.loans (λ k o. o) once
once_after n w (command.Analyse id plan) h e once = stays_once id (with_analysis (n + 1) w.today plan) w.loans (λ k o. o) once
once_after n w (command.Close p) h e once = once
once_after n w (command.Remit p) h e once = once
once_after n w (command.Retype id from kind) h e once = stays_once id (with_type (type_change from kind)) w.loans (λ k o. o) once

once_from : (n : ℕ) (w : World) (h : List Accepted) → IsWorld n w → AreAccepted n w h → All IsReversedOnce w.loans → All IsReversedOnce (world_from n w h).loans
unfolding world_from
once_from n w [] is all once = once
once_from n w (a ∷ more) is all once = once_from (n + 1) (after (n + 1) w a.command) more (accepted_keeps n w a.command is all.0.0 all.0.1) all.1 (once_after n w a.command is all.0.1 once)

pub are_reversed_once : (h : List Accepted) → IsHistory h → All IsReversedOnce (world h).loans
are_reversed_once h is = once_from 0 first_world h first_is_world (history_accepted h is) (All-nil IsReversedOnce)
