-- The terms of a loan are those of the command that boarded it.
use Rattle.std.proofs.Common.{◌≡◌, ℕ, ◌+◌, true, false, List, [], ◌∷◌, map, cond, refl, ap, ◌∙◌}
use Rattle.std.specs.Prelude.{◌==◌, fold, if◌then◌else◌, Option, Some, None}
use Rattle.std.specs.Option.{option_map}
use Rattle.svc_types.specs.declared.terms.Terms.{Terms}
use Rattle.svc_types.specs.declared.account.Act.TheVariants as act
use Rattle.svc_types.specs.declared.requests.Command.{Command}
use Rattle.svc_types.specs.declared.requests.Command.TheVariants as command
use Rattle.svc_world.specs.Held.{Held, find_loan, boarded, with_entry, with_reversal, on_day, with_bill, without_bill, with_type, with_loan, changed}
use Rattle.svc_world.specs.LoanDues.{type_change}
use Rattle.svc_world.specs.World.{World, Accepted, first_world, entry, with_analysis, loans_after, after, world_from, world}
use Rattle.svc_world.specs.Refusals.{refusal_of}
use Rattle.svc_world.specs.Judging.{IsHistory}
use Rattle.svc_world.proofs.LoanListLemmas.{find_boarded}
use Rattle.svc_world.proofs.BoardWorlds.{boarding}
use Rattle.svc_world.proofs.HistoryLemmas.{AreAccepted, history_accepted}
use Rattle.pmi_track.specs.Boardings.{with_terms, boarded_terms}
use Rattle.pmi_track.specs.Loans.{terms_in}

terms_of : Held → Terms
terms_of l = l.account.terms

-- the terms of a loan among some
abbrev terms_among : ℕ → List Held → Option Terms
terms_among id ls = option_map (λ (l : Held). l.account.terms) (find_loan id ls)

-- a change that keeps a loan's number and its terms
record KeepsTerms (f : Held → Held) : Type 0 where
  number : (k : Held) → (f k).id ≡ k.id
  terms : (k : Held) → (f k).account.terms ≡ k.account.terms

one_same : (id : ℕ) (f : Held → Held) (l : Held) (ks : List Held) → KeepsTerms f → terms_among id (f l ∷ ks) ≡ terms_among id (l ∷ ks)
one_same id f l ks keeps =
    ap (λ n. option_map (λ (k : Held). k.account.terms) (cond (n == id) (Some (f l)) (find_loan id ks))) (keeps.number l)
    ∙ elim (l.id == id) as (λ v. option_map (λ (k : Held). k.account.terms) (cond v (Some (f l)) (find_loan id ks)) ≡ option_map (λ (k : Held). k.account.terms) (cond v (Some l) (find_loan id ks))) [
      | true ↦ ap Some (keeps.terms l)
      | false ↦ refl
    ]

among_more : (id : ℕ) (l : Held) (ks ls : List Held) → terms_among id ks ≡ terms_among id ls → terms_among id (l ∷ ks) ≡ terms_among id (l ∷ ls)
among_more id l ks ls e =
    elim (l.id == id) as (λ v. option_map (λ (k : Held). k.account.terms) (cond v (Some l) (find_loan id ks)) ≡ option_map (λ (k : Held). k.account.terms) (cond v (Some l) (find_loan id ls))) [
      | true ↦ refl
      | false ↦ e
    ]

among_changed : (id other : ℕ) (f : Held → Held) (ls : List Held) → KeepsTerms f → terms_among id (changed other f ls) ≡ terms_among id ls
among_changed id other f [] keeps = refl
among_changed id other f (l ∷ ls) keeps =
    elim (l.id == other) as (λ v. terms_among id (if v then f l ∷ ls else l ∷ changed other f ls) ≡ terms_among id (l ∷ ls)) [
      | true ↦ one_same id f l ls keeps
      | false ↦ among_more id l (changed other f ls) ls (among_changed id other f ls keeps)
    ]

among_mapped : (id : ℕ) (f : Held → Held) (ls : List Held) → KeepsTerms f → terms_among id (map f ls) ≡ terms_among id ls
among_mapped id f [] keeps = refl
among_mapped id f (l ∷ ls) keeps = one_same id f l (map f ls) keeps ∙ among_more id l (map f ls) ls (among_mapped id f ls keeps)

plain : (f : Held → Held) → ((k : Held) → (f k).id ≡ k.id) → ((k : Held) → (f k).account.terms ≡ k.account.terms) → KeepsTerms f
plain f a b = record { number = a; terms = b }

among_boarded : (id loan : ℕ) (t : Terms) (today : ℕ) (ls : List Held) → find_loan loan ls ≡ None → terms_among id (with_loan (boarded loan t today) ls) ≡ (if loan == id then Some t else terms_among id ls)
among_boarded id loan t today ls none =
    ap (option_map (λ (k : Held). k.account.terms)) (find_boarded id (boarded loan t today) ls none)
    ∙ elim (loan == id) as (λ v. option_map (λ (k : Held). k.account.terms) (if v then Some (boarded loan t today) else find_loan id ls) ≡ (if v then Some t else terms_among id ls)) [
      | true ↦ refl
      | false ↦ refl
    ]

-- the terms after one command more
terms_after : (id n : ℕ) (w : World) (c : Command) → refusal_of n w c ≡ None → terms_among id (loans_after (n + 1) w.today w.loans c) ≡ with_terms id (terms_among id w.loans) c
unfolding loans_after
terms_after id n w (command.Day d) none = among_mapped id (on_day d) w.loans (plain (on_day d) (λ k. refl) (λ k. refl))
terms_after id n w (command.Board loan t) none = among_boarded id loan t w.today w.loans (boarding n loan t w none).new
terms_after id n w (command.Pay loan d c over) none = let f = with_entry (entry (n + 1) d (act.Pay c over)) in among_changed id loan f w.loans (plain f (λ k. refl) (λ k. refl))
terms_after id n w (command.Curtail loan d c) none = let f = with_entry (entry (n + 1) d (act.Curtail c)) in among_changed id loan f w.loans (plain f (λ k. refl) (λ k. refl))
terms_after id n w (command.Payoff loan d c) none = let f = with_entry (entry (n + 1) d (act.Payoff c)) in among_changed id loan f w.loans (plain f (λ k. refl) (λ k. refl))
terms_after id n w (command.Deposit loan d c) none = let f = with_entry (entry (n + 1) d (act.Deposit c)) in among_changed id loan f w.loans (plain f (λ k. refl) (λ k. refl))
terms_after id n w (command.Disburse loan d c line) none = let f = with_entry (entry (n + 1) d (act.Disburse c line)) in among_changed id loan f w.loans (plain f (λ k. refl) (λ k. refl))
terms_after id n w (command.Refund loan c) none = let f = with_entry (entry (n + 1) w.today (act.Refund c)) in among_changed id loan f w.loans (plain f (λ k. refl) (λ k. refl))
terms_after id n w (command.Waive loan c) none = let f = with_entry (entry (n + 1) w.today (act.Waive c)) in among_changed id loan f w.loans (plain f (λ k. refl) (λ k. refl))
terms_after id n w (command.Reverse loan number) none = let f = with_reversal number (n + 1) in among_changed id loan f w.loans (plain f (λ k. refl) (λ k. refl))
terms_after id n w (command.Line loan line kind month every c) none = let f = with_bill (record { id = line; kind = kind; month = month; every = every; cents = c }) in among_changed id loan f w.loans (plain f (λ k. refl) (λ k. refl))
terms_after id n w (command.Drop loan line) none = let f = without_bill line in among_changed id loan f w.loans (plain f (λ k. refl) (λ k. refl))
terms_after id n w (command.Analyse loan plan) none = let f = with_analysis (n + 1) w.today plan in among_changed id loan f w.loans (plain f (λ k. refl) (λ k. refl))
terms_after id n w (command.Close p) none = refl
terms_after id n w (command.Remit p) none = refl
terms_after id n w (command.Retype loan from kind) none = let f = with_type (type_change from kind) in among_changed id loan f w.loans (plain f (λ k. refl) (λ k. refl))

terms_from : (id n : ℕ) (w : World) (more : List Accepted) → AreAccepted n w more → terms_among id (world_from n w more).loans ≡ fold (λ terms (a : Accepted). with_terms id terms a.command) (terms_among id w.loans) more
unfolding world_from after
terms_from id n w [] all = refl
terms_from id n w (a ∷ more) all =
    terms_from id (n + 1) (after (n + 1) w a.command) more all.1
    ∙ ap (λ o. fold (λ terms (x : Accepted). with_terms id terms x.command) o more) (terms_after id n w a.command all.0.1)

-- a loan is there exactly where a command boarded it, with that command's terms
pub terms_are : (id : ℕ) (h : List Accepted) → IsHistory h → terms_in (world h) id ≡ boarded_terms id h
terms_are id h is = terms_from id 0 first_world h (history_accepted h is)
