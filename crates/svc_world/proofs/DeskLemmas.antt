-- Quotes come true.
use Rattle.std.proofs.Common.{◌≡◌, ℕ, ◌+◌, false, List, [], ◌∷◌, ◌++◌, map, length, refl, ap, ◌∙◌}
use Rattle.std.specs.Prelude.{nat_le, Some, None, ℤ}
use Rattle.std.specs.Option.{option_map}
use Rattle.svc_types.specs.declared.requests.Command.TheVariants as command
use Rattle.svc_types.specs.declared.requests.Query.TheVariants as query
use Rattle.svc_types.specs.declared.replies.Refusal.TheVariants.{DayNotLater}
use Rattle.custodial_book.specs.declared.row.Row.{Row}
use Rattle.svc_world.specs.declared.answer.Answer.TheVariants as answer
use Rattle.svc_world.specs.Held.{Held, find_loan, on_day}
use Rattle.svc_world.specs.World.{World, Accepted, accepted, after, loans_after, world}
use Rattle.svc_world.specs.Worlds.{IsHeld}
use Rattle.svc_world.specs.Refusals.{case, refusal_of, full_of_commands, cases_by_command, payoff_due_on}
use Rattle.svc_world.specs.Judging.{Fresh, judged, IsHistory}
use Rattle.svc_world.specs.Desk.{Posting, books_on, quoted, per_day}
use Rattle.svc_world.specs.Answers.{answer_from, answer_to}
use Rattle.svc_world.proofs.CaseLemmas.{past}
use Rattle.svc_world.proofs.LoanListLemmas.{find_mapped, found_all}
use Rattle.svc_world.proofs.HistoryLemmas.{fresh_none, is_world, world-push}

-- ---- quotes come true

-- a business day is after the one before it
pub day_is_later : (n d : ℕ) (w : World) → refusal_of n w (command.Day d) ≡ None → nat_le d w.today ≡ false
unfolding refusal_of
day_is_later n d w e =
    let p = past (full_of_commands n) (cases_by_command w (command.Day d)) e in
    (past (case (nat_le d w.today) (DayNotLater w.today)) [] p.rest).no

-- on a later day a quote is what is due on that day, once it has come
quote_is_due : (l : Held) (d : ℕ) → nat_le d l.account.today ≡ false → payoff_due_on (on_day d l) d ≡ quoted l d
unfolding books_on
quote_is_due l d e = rw e refl

quoted_cents : (l : Held) (id d : ℕ) (cents perday : ℤ) → Some (answer.Quote id d (quoted l d) (per_day l d)) ≡ Some (answer.Quote id d cents perday) → quoted l d ≡ cents
quoted_cents l id d cents perday e = cc

due_of_mapped : (w later : World) (rows rows' : List Row) (ps ps' : List Posting) (id d : ℕ) (cents perday : ℤ) → later.loans ≡ map (on_day d) w.loans → ((l : Held) → find_loan id w.loans ≡ Some l → nat_le d l.account.today ≡ false) → answer_from w rows ps (query.Quote id d) ≡ Some (answer.Quote id d cents perday) → answer_from later rows' ps' (query.Payoff id d) ≡ Some (answer.Payoff id d cents)
unfolding answer_from
due_of_mapped w later rows rows' ps ps' id d cents perday loans late e =
    elim (find_loan id w.loans) as (λ o. find_loan id w.loans ≡ o → option_map (λ (l : Held). answer.Quote id d (quoted l d) (per_day l d)) o ≡ Some (answer.Quote id d cents perday) → option_map (λ (l : Held). answer.Payoff id d (payoff_due_on l d)) (find_loan id later.loans) ≡ Some (answer.Payoff id d cents)) [
      | None ↦ λ is told. absurd (cc)
      | Some l ↦ λ is told.
          let found : find_loan id later.loans ≡ Some (on_day d l) = ap (find_loan id) loans ∙ find_mapped id (on_day d) w.loans l is (λ k. refl) in
          let same : payoff_due_on (on_day d l) d ≡ cents = quote_is_due l d (late l is) ∙ quoted_cents l id d cents perday told in
          ap (option_map (λ (k : Held). answer.Payoff id d (payoff_due_on k d))) found ∙ ap (λ c. Some (answer.Payoff id d c)) same
    ] refl e

pub loans_on : (n d : ℕ) (w : World) → (after n w (command.Day d)).loans ≡ map (on_day d) w.loans
unfolding after loans_after
loans_on n d w = refl

pub quote_comes_true : (h : List Accepted) (key : List ℕ) (id d : ℕ) (cents perday : ℤ) → IsHistory h → judged h key (command.Day d) ≡ Fresh → answer_to h (query.Quote id d) ≡ Some (answer.Quote id d cents perday) → answer_to (h ++ accepted key (command.Day d) ∷ []) (query.Payoff id d) ≡ Some (answer.Payoff id d cents)
quote_comes_true h key id d cents perday is fresh e =
    let w = world h in
    let later = h ++ accepted key (command.Day d) ∷ [] in
    let none = fresh_none h key (command.Day d) fresh in
    let loans : (world later).loans ≡ map (on_day d) w.loans = ap (λ (x : World). x.loans) (world-push h (accepted key (command.Day d))) ∙ loans_on (length h + 1) d w in
    let held = (is_world h is).held in
    due_of_mapped w (world later) _ _ _ _ id d cents perday loans
    (λ l found. let k = found_all (IsHeld (length h) w.today) id w.loans l found held in ap (nat_le d) k.today ∙ day_is_later (length h) d w none) e
