-- The part of a history is a history with the loans of its set, and its reports have their lines.
use Rattle.std.proofs.Common.{◌≡◌, ℕ, ◌≤◌, ◌<◌, Bool, true, false, cond, List, [], ◌∷◌, map, length, get_or, arith, refl, sym, ap, subst, ◌∙◌}
use Rattle.std.specs.Prelude.{◌==◌, nat_le, if◌then◌else◌, Option, Some, None, ⊤, ℤ, pos, ◌+ℤ◌}
use Rattle.std.specs.List.{All, filter, find}
use Rattle.std.specs.Option.{option_map, option_map_or}
use Rattle.std.proofs.lemmas.List.Elements.{All-cons, All-head, All-tail, All-nil}
use Rattle.std.proofs.lemmas.Bool.Decides.{nat_tests}
use Rattle.svc_types.specs.declared.requests.Command.{Command}
use Rattle.svc_types.specs.declared.requests.Command.TheVariants as command
use Rattle.svc_types.specs.Keys.{IsKey}
use Rattle.svc_types.specs.Requests.{IsCommand}
use Rattle.period_adjust.specs.declared.report_line.ReportLine.{ReportLine}
use Rattle.period_adjust.specs.Sealed.{Sealed}
use Rattle.svc_world.specs.Held.{Held, find_loan}
use Rattle.svc_world.specs.World.{World, Accepted, first_world, world_from, world}
use Rattle.svc_world.specs.Judging.{report_for, AreWellFormed, IsHistory}
use Rattle.svc_world.specs.Worlds.{IsListed, IsWorld, AreWorlds}
use Rattle.svc_world.proofs.HistoryLemmas.{history_accepted, are_worlds, is_world}
use Rattle.svc_world.proofs.LoanListLemmas.{found_id, found_all}
use Rattle.servicing_transfer.specs.Parts.{is_part, least_month, months_for, place_in, renumbered, moved_to, part_of}
use Rattle.servicing_transfer.specs.Splits.{IsSameFound, loan_in, KeepsLoans, lines_for, KeepsLines, IsKeptPart}
use Rattle.servicing_transfer.proofs.Renumbering.{Counts, books_of_at}
use Rattle.servicing_transfer.proofs.ShownLoans.{loan_at, loans_shown, IsShown, due_of_at, find_shown}
use Rattle.servicing_transfer.proofs.ShownChanges.{lines_in, report_shown, reports_shown}
use Rattle.servicing_transfer.proofs.StepShown.{shown, All_shown}
use Rattle.servicing_transfer.proofs.PartPlaces.{place_counts, place_most, are_placed, are_new}
use Rattle.servicing_transfer.proofs.PartWalk.{IsFollowed, walk}

-- ---- both ends of the walk

first_sound : (n : ℕ) (w : World) (h : List Accepted) → AreWorlds n w h → IsWorld n w
first_sound n w [] h = h
first_sound n w (a ∷ more) h = h.0

part_follows : (set : ℕ → Bool) (h : List Accepted) → IsHistory h → IsFollowed set (place_in set h) (least_month set h) [] [] h
unfolding world_from
part_follows set h is =
    walk set (place_in set h) (least_month set h) 0 first_world [] [] h (place_counts set h) (are_new [] h is.fresh)
    (record {
      accepted = history_accepted h is;
      sound = first_sound 0 first_world h (are_worlds h is);
      shows = All-nil (IsShown set (months_for set h) (place_in set h));
      ends = refl;
      placed = are_placed set h [] h refl;
    })
    (record { count = refl; world_is = refl; place_is = refl; fewer = omega arith; part_is = refl; keys = λ key e. e })

-- the world of the part is what the world of the whole shows
pub part_world : (set : ℕ → Bool) (h : List Accepted) → IsHistory h → world (part_of set h) ≡ shown set (months_for set h) (place_in set h) (world h)
part_world set h is = (part_follows set h is).shown_is

pub final_shown : (set : ℕ → Bool) (h : List Accepted) → IsHistory h → All_shown set (months_for set h) (place_in set h) (world h).loans
final_shown set h is = (part_follows set h is).shows

-- ---- the part is a history

formed_at : (place : ℕ → ℕ) (most : ℕ) (c : Command) → ((n : ℕ) → place n ≤ most) → most ≤ 1_000_000 → IsCommand c → IsCommand (renumbered place c)
formed_at place most (command.Reverse id number) low le h = let few = low number in (h.0, small few le)
  where
    small : place number ≤ most → most ≤ 1_000_000 → place number < 4_294_967_296
    small a b = omega arith
formed_at place most c low le h = h

formed_all : (set months : ℕ → Bool) (place : ℕ → ℕ) (most : ℕ) (h : List Accepted) → ((n : ℕ) → place n ≤ most) → most ≤ 1_000_000 → AreWellFormed h → AreWellFormed (map (moved_to place) (filter (is_part set months) h))
formed_all set months place most [] low le all = all
formed_all set months place most (a ∷ more) low le all =
    let here = All-head (λ (x : Accepted). IsKey x.key × IsCommand x.command) a more all in
    let rest = formed_all set months place most more low le (All-tail (λ (x : Accepted). IsKey x.key × IsCommand x.command) a more all) in
    elim (is_part set months a) as (λ v. AreWellFormed (map (moved_to place) (cond v (a ∷ filter (is_part set months) more) (filter (is_part set months) more)))) [
      | true ↦ All-cons (λ (x : Accepted). IsKey x.key × IsCommand x.command) (moved_to place a) (map (moved_to place) (filter (is_part set months) more)) (here.0, formed_at place most a.command low le here.1) rest
      | false ↦ rest
    ]

pub part_history : (set : ℕ → Bool) (h : List Accepted) → IsHistory h → IsHistory (part_of set h)
part_history set h is = record {
  formed = formed_all set (months_for set h) (place_in set h) (length h) h (place_most set h) (is_world h is).count is.formed;
  fresh = (part_follows set h is).fresh;
}

-- ---- its loans

loan_kept : (set months : ℕ → Bool) (place : ℕ → ℕ) (id : ℕ) (o : Option Held) (ls : List Held) → Counts place → All_shown set months place ls → set id ≡ true → find_loan id ls ≡ o → IsSameFound o (option_map (loan_at place) o)
loan_kept set months place id None ls counts h is e = tt
loan_kept set months place id (Some l) ls counts h is e =
    let held = found_all (IsShown set months place) id ls l e h in
    let are = held.counted (ap set (found_id id ls l e) ∙ is) in
    record { number = refl; terms = refl; lines = refl; types = refl; books = λ d. books_of_at place l.account d counts are; dues = λ p. due_of_at place l p counts are }

other_gone : (set : ℕ → Bool) (place : ℕ → ℕ) (id : ℕ) (ls : List Held) → set id ≡ false → find_loan id (loans_shown set place ls) ≡ None
other_gone set place id [] is = refl
other_gone set place id (l ∷ ls) is =
    let rest = other_gone set place id ls is in
    elim (set l.id) as (λ v. set l.id ≡ v → find_loan id (if v then loan_at place l ∷ loans_shown set place ls else loans_shown set place ls) ≡ None) [
      | true ↦ λ e. elim (l.id == id) as (λ v. (l.id == id) ≡ v → cond v (Some (loan_at place l)) (find_loan id (loans_shown set place ls)) ≡ None) [
        | true ↦ λ same. let number : l.id ≡ id = grind (arith, nat_tests) in let both : set l.id ≡ false = ap set number ∙ is in absurd (cc)
        | false ↦ λ other. rest
      ] refl
      | false ↦ λ e. rest
    ] refl

loans_kept : (set months : ℕ → Bool) (place : ℕ → ℕ) (w : World) (id : ℕ) → Counts place → All_shown set months place w.loans → IsSameFound (loan_in set w id) (find_loan id (loans_shown set place w.loans))
loans_kept set months place w id counts h =
    elim (set id) as (λ v. set id ≡ v → IsSameFound (if v then find_loan id w.loans else None) (find_loan id (loans_shown set place w.loans))) [
      | true ↦ λ is. subst (IsSameFound (find_loan id w.loans)) (sym (find_shown set place id w.loans is)) (loan_kept set months place id (find_loan id w.loans) w.loans counts h is refl)
      | false ↦ λ is. subst (IsSameFound None) (sym (other_gone set place id w.loans is)) tt
    ] refl

pub part_loans : (set : ℕ → Bool) (h : List Accepted) → IsHistory h → KeepsLoans set (world h) (world (part_of set h))
part_loans set h is = subst (KeepsLoans set (world h)) (sym (part_world set h is)) (record {
  today = refl;
  loans = λ id. loans_kept set (months_for set h) (place_in set h) (world h) id (place_counts set h) (final_shown set h is);
})

-- ---- its reports

report_shown_for : (set months : ℕ → Bool) (place : ℕ → ℕ) (p : ℕ) (rs : List Sealed) → months p ≡ true → report_for p (reports_shown set months place rs) ≡ option_map (report_shown set place) (report_for p rs)
report_shown_for set months place p [] is = refl
report_shown_for set months place p (r ∷ rs) is =
    let rest = report_shown_for set months place p rs is in
    elim (r.month == p) as (λ v. (r.month == p) ≡ v → report_for p (reports_shown set months place (r ∷ rs)) ≡ option_map (report_shown set place) (cond v (Some r) (report_for p rs))) [
      | true ↦ λ e.
          let same : r.month ≡ p = grind (arith, nat_tests) in
          let here : months r.month ≡ true = ap months same ∙ is in
          ap (λ v. report_for p (if v then report_shown set place r ∷ reports_shown set months place rs else reports_shown set months place rs)) here
          ∙ ap (λ v. cond v (Some (report_shown set place r)) (report_for p (reports_shown set months place rs))) e
      | false ↦ λ e.
          elim (months r.month) as (λ v. report_for p (if v then report_shown set place r ∷ reports_shown set months place rs else reports_shown set months place rs) ≡ option_map (report_shown set place) (report_for p rs)) [
            | true ↦ ap (λ v. cond v (Some (report_shown set place r)) (report_for p (reports_shown set months place rs))) e ∙ rest
            | false ↦ rest
          ]
    ] refl

report_gone : (set months : ℕ → Bool) (place : ℕ → ℕ) (p : ℕ) (rs : List Sealed) → months p ≡ false → report_for p (reports_shown set months place rs) ≡ None
report_gone set months place p [] is = refl
report_gone set months place p (r ∷ rs) is =
    let rest = report_gone set months place p rs is in
    elim (months r.month) as (λ v. months r.month ≡ v → report_for p (if v then report_shown set place r ∷ reports_shown set months place rs else reports_shown set months place rs) ≡ None) [
      | true ↦ λ e. elim (r.month == p) as (λ v. (r.month == p) ≡ v → cond v (Some (report_shown set place r)) (report_for p (reports_shown set months place rs)) ≡ None) [
        | true ↦ λ same. let this : r.month ≡ p = grind (arith, nat_tests) in let both : months r.month ≡ false = ap months this ∙ is in absurd (cc)
        | false ↦ λ other. rest
      ] refl
      | false ↦ λ e. rest
    ] refl

-- a loan of the set has no line before the part's months
none_in : (set : ℕ → Bool) (xs : List ReportLine) → All (λ (l : ReportLine). set l.loan ≡ false) xs → lines_in set xs ≡ []
none_in set [] h = refl
none_in set (x ∷ xs) h =
    ap (λ v. cond v (x ∷ lines_in set xs) (lines_in set xs)) (All-head (λ (l : ReportLine). set l.loan ≡ false) x xs h)
    ∙ none_in set xs (All-tail (λ (l : ReportLine). set l.loan ≡ false) x xs h)

pub not_listed : (set months : ℕ → Bool) (place : ℕ → ℕ) (loans : List Held) (p : ℕ) (x : ReportLine) → All_shown set months place loans → months p ≡ false → IsListed loans p x → set x.loan ≡ false
not_listed set months place loans p x h before listed =
    let number = found_id x.loan loans listed.loan listed.found in
    let held = found_all (IsShown set months place) x.loan loans listed.loan listed.found h in
    elim (set x.loan) as (λ v. set x.loan ≡ v → v ≡ false) [
      | true ↦ λ is. let lt = held.since (ap set number ∙ is) p before in let low = listed.since in absurd (omega arith)
      | false ↦ λ is. refl
    ] refl

report_all : (P : Sealed → Type 0) (p : ℕ) (rs : List Sealed) → All P rs → Rattle.std.specs.Prelude.IfSome (report_for p rs) (λ r. P r × (r.month ≡ p))
report_all P p [] h = tt
report_all P p (r ∷ rs) h =
    elim (r.month == p) as (λ v. (r.month == p) ≡ v → Rattle.std.specs.Prelude.IfSome (cond v (Some r) (report_for p rs)) (λ x. P x × (x.month ≡ p))) [
      | true ↦ λ e. let same : r.month ≡ p = grind (arith, nat_tests) in (All-head P r rs h, same)
      | false ↦ λ e. report_all P p rs (All-tail P r rs h)
    ] refl

gone_lines : (set months : ℕ → Bool) (place : ℕ → ℕ) (loans : List Held) (p : ℕ) (o : Option Sealed) → All_shown set months place loans → months p ≡ false → Rattle.std.specs.Prelude.IfSome o (λ r. All (IsListed loans r.month) r.lines × (r.month ≡ p)) → lines_in set (option_map_or (λ (r : Sealed). r.lines) o []) ≡ []
gone_lines set months place loans p None h before is = refl
gone_lines set months place loans p (Some r) h before is =
    none_in set r.lines (λ i d lt. not_listed set months place loans r.month (get_or r.lines i d) h (ap months is.1 ∙ before) (is.0 i d lt))

kept_lines : (set : ℕ → Bool) (place : ℕ → ℕ) (o : Option Sealed) → option_map_or (λ (r : Sealed). r.lines) (option_map (report_shown set place) o) [] ≡ lines_in set (option_map_or (λ (r : Sealed). r.lines) o [])
kept_lines set place None = refl
kept_lines set place (Some r) = refl

lines_kept : (set months : ℕ → Bool) (place : ℕ → ℕ) (w : World) (p : ℕ) → All_shown set months place w.loans → All (λ (r : Sealed). All (IsListed w.loans r.month) r.lines) w.seals.reports → lines_for p (reports_shown set months place w.seals.reports) ≡ lines_in set (lines_for p w.seals.reports)
lines_kept set months place w p h listed =
    elim (months p) as (λ v. months p ≡ v → lines_for p (reports_shown set months place w.seals.reports) ≡ lines_in set (lines_for p w.seals.reports)) [
      | true ↦ λ is. ap (λ o. option_map_or (λ (r : Sealed). r.lines) o []) (report_shown_for set months place p w.seals.reports is) ∙ kept_lines set place (report_for p w.seals.reports)
      | false ↦ λ is. ap (λ o. option_map_or (λ (r : Sealed). r.lines) o []) (report_gone set months place p w.seals.reports is) ∙ sym (gone_lines set months place w.loans p (report_for p w.seals.reports) h is (report_all (λ (r : Sealed). All (IsListed w.loans r.month) r.lines) p w.seals.reports listed))
    ] refl

pub part_lines : (set : ℕ → Bool) (h : List Accepted) → IsHistory h → KeepsLines set (world h) (world (part_of set h))
part_lines set h is = subst (KeepsLines set (world h)) (sym (part_world set h is)) (λ p. lines_kept set (months_for set h) (place_in set h) (world h) p (final_shown set h is) (is_world h is).reports.listed)

pub part_kept : (set : ℕ → Bool) (h : List Accepted) → IsHistory h → IsKeptPart set h (part_of set h)
part_kept set h is = record { history = part_history set h is; loans = part_loans set h is; lines = part_lines set h is }
