-- On the business day that is accepted next the payoff of a quoted loan is answered.
use Rattle.std.proofs.Common.{◌≡◌, ℕ, ◌+◌, ◌<◌, ◌≤◌, false, List, [], ◌∷◌, ◌++◌, map, length, arith, refl, ap, ◌∙◌}
use Rattle.std.specs.Prelude.{nat_lt, Some, None, ℤ}
use Rattle.std.proofs.lemmas.Bool.Decides.{nat_tests}
use Rattle.svc_types.specs.declared.requests.Command.TheVariants as command
use Rattle.svc_types.specs.declared.requests.Query.TheVariants as query
use Rattle.svc_world.specs.declared.answer.Answer.{Answer}
use Rattle.svc_world.specs.declared.answer.Answer.TheVariants as answer
use Rattle.svc_world.specs.Held.{Held, find_loan, on_day}
use Rattle.svc_world.specs.World.{World, Accepted, accepted, after, world}
use Rattle.svc_world.specs.Worlds.{IsHeld}
use Rattle.svc_world.specs.Refusals.{first_of, day_cases}
use Rattle.svc_world.specs.Judging.{Fresh, judged, IsHistory}
use Rattle.svc_world.specs.Desk.{Posting, quoted, per_day}
use Rattle.svc_world.specs.Answers.{refusal_from, answer_from, answer_to}
use Rattle.svc_world.specs.Answered.{IsAnswerTo}
use Rattle.svc_world.proofs.LoanListLemmas.{find_mapped, found_all}
use Rattle.svc_world.proofs.HistoryLemmas.{fresh_none, is_world, world-push}
use Rattle.svc_world.proofs.AnswerLemmas.{IsOfLoan, is_of_loan, rules_found}
use Rattle.svc_world.proofs.DeskLemmas.{day_is_later, loans_on, quote_comes_true}

quote_found : (h : List Accepted) (id d : ℕ) (a : Answer) → answer_to h (query.Quote id d) ≡ Some a → IsOfLoan (world h) id (λ l. answer.Quote id d (quoted l d) (per_day l d)) a
unfolding answer_from
quote_found h id d a e = is_of_loan (world h) id (λ l. answer.Quote id d (quoted l d) (per_day l d)) a e

today_on : (n d : ℕ) (w : World) → (after n w (command.Day d)).today ≡ d
unfolding after
today_on n d w = refl

-- a day from boarding to the business day may be asked for
day_passes : (w : World) (d : ℕ) (l : Held) → w.today ≡ d → l.account.terms.boarded ≤ d → first_of (day_cases w d l) ≡ None
day_passes w d l at since =
    let no : nat_lt w.today d ≡ false = grind (arith, nat_tests) in
    let not_before : nat_lt d l.account.terms.boarded ≡ false = grind (arith, nat_tests) in
    rw (no, not_before) refl

payoff_passes : (w : World) (ps : List Posting) (id d : ℕ) (l : Held) → find_loan id w.loans ≡ Some l → w.today ≡ d → l.account.terms.boarded ≤ d → refusal_from w ps (query.Payoff id d) ≡ None
unfolding refusal_from
payoff_passes w ps id d l found at since = rules_found w id (day_cases w d) l found ∙ day_passes w d l at since

pub quote_is_answered : (h : List Accepted) (key : List ℕ) (id d : ℕ) (cents perday : ℤ) → IsHistory h → judged h key (command.Day d) ≡ Fresh → answer_to h (query.Quote id d) ≡ Some (answer.Quote id d cents perday) → IsAnswerTo (h ++ accepted key (command.Day d) ∷ []) (query.Payoff id d) (answer.Payoff id d cents)
quote_is_answered h key id d cents perday is fresh e =
    let w = world h in
    let last = accepted key (command.Day d) in
    let later = world (h ++ last ∷ []) in
    let q = quote_found h id d (answer.Quote id d cents perday) e in
    let l = q.loan in
    let held = found_all (IsHeld (length h) w.today) id w.loans l q.found (is_world h is).held in
    let today : later.today ≡ d = ap (λ (x : World). x.today) (world-push h last) ∙ today_on (length h + 1) d w in
    let loans : later.loans ≡ map (on_day d) w.loans = ap (λ (x : World). x.loans) (world-push h last) ∙ loans_on (length h + 1) d w in
    let found : find_loan id later.loans ≡ Some (on_day d l) = ap (find_loan id) loans ∙ find_mapped id (on_day d) w.loans l q.found (λ k. refl) in
    let at = held.today in
    let boarded = held.limited.account.after in
    let moves = day_is_later (length h) d w (fresh_none h key (command.Day d) fresh) in
    let on : w.today < d = grind (arith, nat_tests) in
    let since : l.account.terms.boarded ≤ d = omega (arith, at, boarded, on) in
    record {
      not_refused = payoff_passes later _ id d (on_day d l) found today since;
      answer = quote_comes_true h key id d cents perday is fresh e;
    }
