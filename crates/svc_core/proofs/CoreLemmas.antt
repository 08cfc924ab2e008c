-- A history stays one with a fresh command more, and what is known of the rows of a history.
use Rattle.std.proofs.Common.{◌≡◌, ℕ, ◌+◌, ◌≤◌, true, false, List, [], ◌∷◌, ◌++◌, length, arith, refl, sym, subst, append-nil, append_assoc}
use Rattle.std.specs.Prelude.{Option, Some, None, IfSome, if◌then◌else◌, pos, ◌-ℤ◌}
use Rattle.std.specs.Ordering.{int_eq}
use Rattle.std.specs.List.{All, filter_map, cons_option}
use Rattle.std.proofs.lemmas.List.Elements.{All-append, All-nil, All-cons, All-push}
use Rattle.svc_types.specs.declared.requests.Command.{Command}
use Rattle.svc_types.specs.Keys.{IsKey}
use Rattle.svc_types.specs.Requests.{IsCommand}
use Rattle.custodial_book.specs.declared.part.Part.{Part}
use Rattle.custodial_book.specs.declared.row.Row.{Row}
use Rattle.custodial_book.specs.declared.row.Totals.{Totals}
use Rattle.custodial_book.specs.Parts.{parts}
use Rattle.custodial_book.specs.Rows.{row_of, rows_of, total_of}
use Rattle.svc_world.specs.Held.{Held, find_loan}
use Rattle.svc_world.specs.World.{World, Accepted, accepted, first_world, after, world}
use Rattle.svc_world.specs.Judging.{judged, Fresh, IsHistoryFrom, IsHistory}
use Rattle.svc_world.specs.Custody.{totals_of, totals_before, rows_between, rows_made, rows_from, rows_in, custody_of}
use Rattle.svc_world.proofs.LawLemmas.{are_lawful}
use Rattle.svc_custody.specs.Positions.{positions_of}
use Rattle.svc_core.specs.Rows.{IsCash}

-- ---- one fresh command more

from_push : (done more : List Accepted) (a : Accepted) → IsHistoryFrom done more → judged (done ++ more) a.key a.command ≡ Fresh → IsHistoryFrom done (more ++ a ∷ [])
from_push done [] a h fresh = (subst (λ x. judged x a.key a.command ≡ Fresh) (append-nil done) fresh, tt)
from_push done (x ∷ more) a h fresh =
    let same : (done ++ x ∷ []) ++ more ≡ done ++ x ∷ more = append_assoc done (x ∷ []) more in
    (h.0, from_push (done ++ x ∷ []) more a h.1 (subst (λ y. judged y a.key a.command ≡ Fresh) (sym same) fresh))

pub history_more : (h : List Accepted) (key : List ℕ) (c : Command) → IsHistory h → IsKey key → IsCommand c → judged h key c ≡ Fresh → IsHistory (h ++ accepted key c ∷ [])
history_more h key c is k formed fresh = record {
  formed = All-push (λ (a : Accepted). IsKey a.key × IsCommand a.command) h (accepted key c) is.formed (k, formed);
  fresh = from_push [] h (accepted key c) is.fresh fresh;
}

pub empty_history : IsHistory []
empty_history = record { formed = All-nil (λ (a : Accepted). IsKey a.key × IsCommand a.command); fresh = tt }

-- ---- the numbers of rows

row_number : (Q : ℕ → Type 0) (n id : ℕ) (b a : Totals) (p : Part) → Q n → IfSome (row_of n id b a p) (λ (r : Row). Q r.number)
unfolding row_of
row_number Q n id b a p h =
    elim (int_eq (total_of a p -ℤ total_of b p) (pos 0)) as (λ v. IfSome (if v then None else Some (record { number = n; loan = id; part = p; cents = total_of a p -ℤ total_of b p })) (λ (r : Row). Q r.number)) [
      | true ↦ tt
      | false ↦ h
    ]

option_numbers : (Q : ℕ → Type 0) (o : Option Row) (rows : List Row) → IfSome o (λ (r : Row). Q r.number) → All (λ (r : Row). Q r.number) rows → All (λ (r : Row). Q r.number) (cons_option o rows)
option_numbers Q None rows h rest = rest
option_numbers Q (Some r) rows h rest = All-cons (λ (x : Row). Q x.number) r rows h rest

row_numbers : (Q : ℕ → Type 0) (n id : ℕ) (b a : Totals) (ps : List Part) → Q n → All (λ (r : Row). Q r.number) (filter_map (row_of n id b a) ps)
row_numbers Q n id b a [] h = All-nil (λ (r : Row). Q r.number)
row_numbers Q n id b a (p ∷ ps) h = option_numbers Q (row_of n id b a p) (filter_map (row_of n id b a) ps) (row_number Q n id b a p h) (row_numbers Q n id b a ps h)

between_numbers : (Q : ℕ → Type 0) (n : ℕ) (w later : World) (ls : List Held) → Q n → All (λ (r : Row). Q r.number) (rows_between n w later ls)
unfolding rows_between
between_numbers Q n w later [] h = All-nil (λ (r : Row). Q r.number)
between_numbers Q n w later (l ∷ ls) h =
    All-append (λ (r : Row). Q r.number) (rows_of n l.id (totals_before w (find_loan l.id w.loans)) (totals_of later l)) (rows_between n w later ls)
    (row_numbers Q n l.id (totals_before w (find_loan l.id w.loans)) (totals_of later l) parts h) (between_numbers Q n w later ls h)

from_numbers : (most n : ℕ) (w : World) (h : List Accepted) → n + length h ≤ most → All (λ (r : Row). r.number ≤ most) (rows_from n w h)
unfolding rows_from
from_numbers most n w [] le = All-nil (λ (r : Row). r.number ≤ most)
from_numbers most n w (a ∷ h) le =
    let later = after (n + 1) w a.command in
    All-append (λ (r : Row). r.number ≤ most) (rows_made (n + 1) w later) (rows_from (n + 1) later h)
    (between_numbers (λ k. k ≤ most) (n + 1) w later later.loans (omega arith)) (from_numbers most (n + 1) later h (omega arith))

pub cash_is : (h : List Accepted) → IsHistory h → IsCash (length h) (world h) (rows_in h) (custody_of (world h)) (positions_of (world h))
cash_is h is =
    let laws = are_lawful h is in
    record { line = refl; places = refl; numbers = from_numbers (length h) 0 first_world h (omega arith); t = laws.t; p = laws.p }
