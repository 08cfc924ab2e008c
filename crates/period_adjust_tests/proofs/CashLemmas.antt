-- What a change of small totals does to a book.
use Rattle.std.proofs.Common.{◌≡◌, ℕ, zero, suc, ◌<◌, ◌≤◌, ◌-◌, Bool, true, false, ℤ, pos, ◌-ℤ◌, List, [], ◌∷◌, ◌++◌, length, Some, None, inl, to_z, of_z, w64, FitsSigned, arith, rules, subst, sym}
use Rattle.std.specs.Prelude.{if◌then◌else◌}
use Rattle.std.proofs.lemmas.Int.{ints, to_z-of_z}
use Rattle.std.proofs.lemmas.List.Elements.{All-nil, All-cons, All-append, All-weaker, All-head, All-tail}
use Rattle.std.specs.List.{All, filter_map, cons_option, slice_get}
use Rattle.std.specs.Option.{IfSome}
use Rattle.std.specs.Ordering.{int_eq}
use Rattle.custodial_book.specs.declared.part.Account.{Account}
use Rattle.custodial_book.specs.declared.part.Account.TheVariants.{T, P}
use Rattle.custodial_book.specs.declared.part.Part.{Part}
use Rattle.custodial_book.specs.declared.part.Part.TheVariants.{Received, Returned, Refunded, Disbursed, Collected, Fee, Late, PiAdvance, EscrowAdvance, Remitted, Residual}
use Rattle.custodial_book.specs.declared.row.Row.{Row}
use Rattle.custodial_book.specs.declared.row.Totals.{Totals}
use Rattle.custodial_book.specs.Parts.{parts}
use Rattle.custodial_book.specs.Rows.{total_of, IsTotal, AreTotals, IsBalance, row_of, rows_of, balance_of, balance_with, IsBefore, ComesNext}
use Rattle.period_adjust_tests.specs.Cash.{IsSmall, AreSmall, IsLow}

abbrev Below : ℕ → List Row → Type 0
Below n rows = All (λ row. row.number < n) rows

abbrev UpTo : ℕ → List Row → Type 0
UpTo n rows = All (λ row. row.number ≤ n) rows

at_place : (rows : List Row) (k n loan : ℕ) → Below n rows → IfSome (slice_get rows k) (IsBefore n loan)
at_place [] k n loan h = search rules
at_place (row ∷ rows) zero n loan h = inl (All-head (λ r. r.number < n) row rows h)
at_place (row ∷ rows) (suc k) n loan h = at_place rows k n loan (All-tail (λ r. r.number < n) row rows h)

pub comes_next : (rows : List Row) (n loan : ℕ) → Below n rows → ComesNext n loan rows
comes_next rows n loan h = at_place rows (length rows - 1) n loan h

-- a number that is passed or kept is the same
pub small_kept : (z : ℤ) → IsSmall z → IsSmall (to_z w64 (of_z w64 z))
small_kept z h =
    let fits : FitsSigned w64 z = omega (arith, ints, h.low, h.high) in
    rw (to_z-of_z w64 z fits) h

is_total : (z : ℤ) → IsSmall z → IsTotal z
is_total z h = (omega (arith, ints, h.low, h.high), omega (arith, ints, h.low, h.high))

pub small_totals : (t : Totals) → AreSmall t → AreTotals t
small_totals t h Received = is_total t.received h.received
small_totals t h Returned = is_total t.returned h.returned
small_totals t h Refunded = is_total t.refunded h.refunded
small_totals t h Disbursed = is_total t.disbursed h.disbursed
small_totals t h Collected = is_total t.collected h.collected
small_totals t h Fee = is_total t.fee h.fee
small_totals t h Late = is_total t.late h.late
small_totals t h PiAdvance = is_total t.pi_advance h.pi_advance
small_totals t h EscrowAdvance = is_total t.escrow_advance h.escrow_advance
small_totals t h Remitted = is_total t.remitted h.remitted
small_totals t h Residual = is_total t.residual h.residual

pub balance_near : (account : Account) (rows : List Row) (before after : Totals) → AreSmall before → AreSmall after → IsLow (balance_of account rows) → IsBalance (balance_with account rows before after)
balance_near T rows before after b a held =
    (omega (arith, ints, held.low, b.received.low, b.received.high, b.escrow_advance.low, b.escrow_advance.high, b.returned.low, b.returned.high, b.refunded.low, b.refunded.high, b.disbursed.low, b.disbursed.high, b.collected.low, b.collected.high, b.late.low, b.late.high, a.received.low, a.received.high, a.escrow_advance.low, a.escrow_advance.high, a.returned.low, a.returned.high, a.refunded.low, a.refunded.high, a.disbursed.low, a.disbursed.high, a.collected.low, a.collected.high, a.late.low, a.late.high), omega (arith, ints, held.high, b.received.low, b.received.high, b.escrow_advance.low, b.escrow_advance.high, b.returned.low, b.returned.high, b.refunded.low, b.refunded.high, b.disbursed.low, b.disbursed.high, b.collected.low, b.collected.high, b.late.low, b.late.high, a.received.low, a.received.high, a.escrow_advance.low, a.escrow_advance.high, a.returned.low, a.returned.high, a.refunded.low, a.refunded.high, a.disbursed.low, a.disbursed.high, a.collected.low, a.collected.high, a.late.low, a.late.high))
balance_near P rows before after b a held =
    (omega (arith, ints, held.low, b.collected.low, b.collected.high, b.pi_advance.low, b.pi_advance.high, b.fee.low, b.fee.high, b.remitted.low, b.remitted.high, b.residual.low, b.residual.high, a.collected.low, a.collected.high, a.pi_advance.low, a.pi_advance.high, a.fee.low, a.fee.high, a.remitted.low, a.remitted.high, a.residual.low, a.residual.high), omega (arith, ints, held.high, b.collected.low, b.collected.high, b.pi_advance.low, b.pi_advance.high, b.fee.low, b.fee.high, b.remitted.low, b.remitted.high, b.residual.low, b.residual.high, a.collected.low, a.collected.high, a.pi_advance.low, a.pi_advance.high, a.fee.low, a.fee.high, a.remitted.low, a.remitted.high, a.residual.low, a.residual.high))

one_more : (n : ℕ) (same : Bool) (row : Row) (rest : List Row) → row.number ≤ n → UpTo n rest → UpTo n (cons_option (if same then None else Some row) rest)
one_more n true row rest h r = r
one_more n false row rest h r = All-cons (λ x. x.number ≤ n) row rest h r

rows_up_to : (n loan : ℕ) (before after : Totals) (ps : List Part) → UpTo n (filter_map (row_of n loan before after) ps)
unfolding row_of
rows_up_to n loan before after [] = All-nil (λ x. x.number ≤ n)
rows_up_to n loan before after (p ∷ ps) =
    one_more n (int_eq (total_of after p -ℤ total_of before p) (pos 0)) (record { number = n; loan = loan; part = p; cents = total_of after p -ℤ total_of before p })
    (filter_map (row_of n loan before after) ps) (omega arith) (rows_up_to n loan before after ps)

pub kept_up_to : (rows : List Row) (n : ℕ) → Below n rows → UpTo n rows
kept_up_to rows n h = All-weaker (λ x. x.number < n) (λ x. x.number ≤ n) (λ x e. omega arith) rows h

pub more_up_to : (rows now : List Row) (n loan : ℕ) (before after : Totals) → Below n rows → now ≡ rows ++ rows_of n loan before after → UpTo n now
more_up_to rows now n loan before after h is =
    subst (UpTo n) (sym is) (All-append (λ x. x.number ≤ n) rows (rows_of n loan before after) (kept_up_to rows n h) (rows_up_to n loan before after parts))
