-- An entry that is the last of its loan's events: what its one step leaves of the books that are kept, and counts.
use Rattle.std.proofs.Common.{◌≡◌, ℕ, ◌+◌, ◌-◌, ◌≤◌, ◌<◌, true, false, List, [], ◌∷◌, length, arith, refl, sym, ap, subst, ◌∙◌, length-append}
use Rattle.std.specs.Prelude.{nat_lt}
use Rattle.std.proofs.lemmas.List.Elements.{All-cons}
use Rattle.std.proofs.lemmas.Bool.Decides.{nat_tests}
use Rattle.svc_base.specs.Calendar.{month_of, last_day}
use Rattle.svc_base.specs.DayLemmas.{month_length_most}
use Rattle.svc_types.specs.declared.terms.Terms.{Terms}
use Rattle.svc_types.specs.declared.books.Books.{Books}
use Rattle.svc_types.specs.declared.account.Entry.{Entry}
use Rattle.svc_types.specs.declared.account.Event.{Event}
use Rattle.svc_spec.specs.Books.{AreBooks, AreWithin}
use Rattle.svc_spec.specs.Step.{step}
use Rattle.svc_spec.specs.Events.{event_of, events_to}
use Rattle.svc_spec.specs.Accounts.{Account, IsAccount, MayPost, posted, live_of, books_of}
use Rattle.svc_spec.specs.Months.{counted, cost_of_month}
use Rattle.svc_spec.proofs.DayLemmas.{on}
use Rattle.svc_spec.proofs.TimeLemmas.{past, past_all}
use Rattle.svc_spec.proofs.PastLemmas.{past_append, length_past}
use Rattle.svc_spec.proofs.SameLemmas.{posted_same}
use Rattle.svc_spec.proofs.StepsLemmas.{next_rises, books_first}
use Rattle.svc_replay.specs.declared.cursor.Lates.{Lates}
use Rattle.svc_replay.specs.Kept.{IsQuietAfter}
use Rattle.svc_replay.proofs.LastLemmas.{quiet_month, posted_events, posted_books, posted_within, posted_count}
use Rattle.svc_checkpoint.specs.declared.month_end.MonthEnd.{MonthEnd}
use Rattle.svc_checkpoint.specs.Ends.{AreChecked, counted_before}
use Rattle.svc_checkpoint.proofs.EndsLemmas.{counted_first, counted_later, own_day, ends_fewer, posted_ends, within_change}

-- the step can be taken
pub last_within : (a a' : Account) (t : Terms) (e : Entry) (b : Books) → IsAccount a → MayPost a e → IsAccount a' → a' ≡ posted e a → t ≡ a'.terms → b ≡ books_of a a.today → IsQuietAfter a e.day → AreWithin (step t (event_of e) (on e.day b))
last_within a a' t e b h may h' is terms now quiet =
    let same : t ≡ a.terms = terms ∙ ap (λ (x : Account). x.terms) is in
    let within = posted_within a e h may (subst IsAccount is h') quiet in
    subst (λ x. AreWithin (step x (event_of e) (on e.day b))) (sym same) (subst (λ x. AreWithin (step a.terms (event_of e) (on e.day x))) (sym now) within)

stepped : (a : Account) (t : Terms) (e : Entry) (b b' : Books) → IsAccount a → MayPost a e → IsQuietAfter a e.day → t ≡ a.terms → b ≡ books_of a a.today → b' ≡ on b.day (step t (event_of e) (on e.day b)) → b' ≡ books_of (posted e a) a.today
stepped a t e b b' h may quiet terms now is =
    let day = (own_day a.terms (live_of a) a.today b now).0 in
    is
    ∙ ap (λ x. on x (step t (event_of e) (on e.day b))) day
    ∙ ap (λ x. on a.today (step x (event_of e) (on e.day b))) terms
    ∙ ap (λ x. on a.today (step a.terms (event_of e) (on e.day x))) now
    ∙ sym (posted_books a e h may quiet)

checked_onto : (a : Account) (t : Terms) (e : Entry) (ends : List MonthEnd) (b b' : Books) (lates : Lates) → AreChecked a ends b lates → MayPost a e → IsAccount (posted e a) → IsQuietAfter a e.day → t ≡ a.terms → b' ≡ on b.day (step t (event_of e) (on e.day b)) → AreBooks t b' → AreChecked (posted e a) ends b' lates
checked_onto a t e ends b b' lates h may h' quiet terms is sound =
    let month = quiet_month a e.day may.since quiet in
    let count = h.count in
    let until = may.until in
    let low : month_of e.day - month_of a.terms.boarded ≤ length ends = omega arith in
    record {
      account = h';
      today = h.today;
      count = h.count;
      ends = ends_fewer (posted e a) ends (month_of e.day - month_of a.terms.boarded) (length ends) (posted_ends a (posted e a) e ends (length ends) h.account h.ends may refl low) (omega arith);
      now = stepped a t e b b' h.account may quiet terms h.now is;
      sound = subst (λ x. AreBooks x b') terms sound;
      lates = h.lates;
    }

-- the ends that are kept stay, and the books now are moved on
pub checked_last : (a a' : Account) (t : Terms) (e : Entry) (ends : List MonthEnd) (b b' : Books) (lates : Lates) → AreChecked a ends b lates → MayPost a e → IsAccount a' → a' ≡ posted e a → IsQuietAfter a e.day → t ≡ a'.terms → b' ≡ on b.day (step t (event_of e) (on e.day b)) → AreBooks t b' → AreChecked a' ends b' lates
checked_last a a' t e ends b b' lates h may h' is quiet terms step sound =
    subst (λ x. AreChecked x ends b' lates) (sym is) (checked_onto a t e ends b b' lates h may (subst IsAccount is h') quiet (terms ∙ ap (λ (x : Account). x.terms) is) step sound)

-- ---- what it counts

-- what was counted up to a day before the entry is no more than what is counted without it
before_last : (a : Account) (e : Entry) (d : ℕ) → IsAccount a → MayPost a e → IsQuietAfter a e.day → d < e.day → counted a.terms (live_of (posted e a)) d ≤ counted a.terms (live_of a) a.today
before_last a e d h may quiet lt =
    let t = a.terms in
    let until = may.until in
    let events = events_to t (live_of a) a.today in
    let one : List Event = event_of e ∷ [] in
    let rest = length_past t (live_of (posted e a)) d a.today (omega arith) in
    let more = ap length (ap (past d) (posted_events a e h may quiet) ∙ past_append d events one) ∙ length-append (past d events) (past d one) in
    let last = ap length (past_all d one (All-cons (λ x. d < x.day) (event_of e) [] lt (λ k x le. absurd (omega arith)))) in
    let all = posted_count a e h may quiet in
    let same = ap (λ (b : Books). b.next) (posted_same a e d h may lt) in
    let rises = next_rises t (live_of a) d a.today (omega arith) in
    omega (arith, rest, more, last, all, same, rises)

-- nor is what was counted before its month
before_month : (a : Account) (e : Entry) → IsAccount a → MayPost a e → IsQuietAfter a e.day → counted_before (posted e a) (month_of e.day) ≤ counted a.terms (live_of a) a.today
before_month a e h may quiet =
    let m = month_of e.day in
    let first = month_of a.terms.boarded in
    elim (nat_lt first m) as (λ v. nat_lt first m ≡ v → counted_before (posted e a) m ≤ counted a.terms (live_of a) a.today) [
      | true ↦ λ g.
          let later : first < m = grind (arith, nat_tests) in
          let end : last_day (m - 1) < e.day = omega (arith, month_length_most (m - 1)) in
          omega (arith, counted_later (posted e a) m later, before_last a e (last_day (m - 1)) h may quiet end)
      | false ↦ λ g.
          let back : m ≤ first = grind (arith, nat_tests) in
          omega (arith, counted_first (posted e a) m back, books_first a.terms (live_of a) a.today)
    ] refl

steps_onto : (a : Account) (e : Entry) (b b' : Books) (old new : ℕ) → IsAccount a → MayPost a e → IsAccount (posted e a) → IsQuietAfter a e.day → b ≡ books_of a a.today → b' ≡ books_of (posted e a) a.today → b.next ≤ b'.next → new + b.next ≡ old + 1 + b'.next → new ≤ old + cost_of_month (posted e a) (month_of e.day)
steps_onto a e b b' old new h may h' quiet now then rose steps =
    let m = month_of e.day in
    let since = may.since in
    let until = may.until in
    let before = before_month a e h may quiet in
    let all = posted_count a e h may quiet in
    let first = ap (λ (x : Books). x.next) now in
    let last = ap (λ (x : Books). x.next) then in
    let most = old + counted a.terms (live_of (posted e a)) a.today - counted_before (posted e a) m in
    let within = within_change (posted e a) m old most h' (omega arith) (omega arith) (omega (arith, before, all, first, last, rose)) in
    omega (arith, within, before, all, first, last, rose, steps)

-- one step more, and one for each installment that it satisfies, are within the cost of its month
pub last_steps : (a a' : Account) (e : Entry) (b b' : Books) (old new : ℕ) → IsAccount a → MayPost a e → IsAccount a' → a' ≡ posted e a → IsQuietAfter a e.day → b ≡ books_of a a.today → b' ≡ books_of a' a'.today → b.next ≤ b'.next → new + b.next ≡ old + 1 + b'.next → new ≤ old + cost_of_month a' (month_of e.day)
last_steps a a' e b b' old new h may h' is quiet now then rose steps =
    let today : a'.today ≡ a.today = ap (λ (x : Account). x.today) is in
    let same : b' ≡ books_of (posted e a) a.today = then ∙ ap (books_of a') today ∙ ap (λ x. books_of x a.today) is in
    subst (λ x. new ≤ old + cost_of_month x (month_of e.day)) (sym is) (steps_onto a e b b' old new h may (subst IsAccount is h') quiet now same rose steps)
