-- What the core answers on a loan, and what its rows add up to, is what the statement says of it.
use Rattle.std.proofs.Common.{◌≡◌, ℕ, zero, suc, add-one, ◌+◌, ◌<◌, ◌≤◌, List, [], ◌∷◌, ◌++◌, length, take, get_or, refl, sym, ap, subst, ◌∙◌, arith, true, Option, Some}
use Rattle.std.specs.Prelude.{map, is_some, ℤ, pos, neg_ℤ, ◌≤ℤ◌}
use Rattle.std.specs.Int.{w64}
use Rattle.std.specs.List.{AllPairs}
use Rattle.std.proofs.lemmas.Int.{ints, int_wrap_fits}
use Rattle.std.proofs.Math.Seq.{take-length}
use Rattle.std.proofs.lemmas.List.{get_or-map}
use Rattle.svc_base.specs.Sums.{total_by}
use Rattle.custodial_book.specs.declared.part.Account.TheVariants.{P}
use Rattle.custodial_book.specs.declared.part.Part.TheVariants.{Collected, Fee, PiAdvance, EscrowAdvance, Remitted, Residual}
use Rattle.custodial_book.specs.declared.row.Totals.{Totals}
use Rattle.custodial_book.specs.Rows.{total_of, cash_of, IsTotal}
use Rattle.svc_world.specs.Held.{Held, find_loan}
use Rattle.svc_world.specs.World.{World, Accepted, world}
use Rattle.svc_world.specs.Worlds.{IsHeld}
use Rattle.svc_world.specs.Custody.{totals_of, rows_in, held_for, custody_of, borrower_cash}
use Rattle.svc_world.specs.Judging.{IsHistory}
use Rattle.svc_world.proofs.HistoryLemmas.{is_world}
use Rattle.svc_world.proofs.CashLemmas.{cash_is_held}
use Rattle.svc_world.proofs.RemittedLemmas.{totals_within}
use Rattle.svc_world.proofs.LoanListLemmas.{rises, all_found, numbers_of, found_all}
use Rattle.servicing_transfer.specs.declared.row_sums.RowSums.{RowSums}
use Rattle.servicing_transfer.specs.declared.statement_line.StatementLine.{StatementLine}
use Rattle.servicing_transfer.specs.Numbers.{loans_of}
use Rattle.servicing_transfer.specs.RowSums.{of_loan, held_by, advanced_by, escrow_by, kept, kept_sums}
use Rattle.servicing_transfer.specs.StatementTexts.{line_for, stated_loans, t_of, p_of}
use Rattle.servicing_transfer.specs.StatementAnswers.{line_with, line_found}
use Rattle.servicing_transfer.proofs.NumberLemmas.{loans_are}
use Rattle.servicing_transfer.proofs.RowSums.{found_by, rows_are_totals, held_totals, advanced_totals, escrow_totals}

-- ---- the sums of a loan's rows

-- an amount that fits stays as it is
kept_is : (z : ℤ) → neg_ℤ (pos 500_000_000_000_000_000) ≤ℤ z → z ≤ℤ pos 500_000_000_000_000_000 → kept z ≡ z
kept_is z low high = int_wrap_fits w64 z (omega (arith, ints))

sums_are : (h : List Accepted) (l : Held) → IsHistory h → find_loan l.id (world h).loans ≡ Some l →
    (total_by (of_loan l.id escrow_by) (rows_in h) ≡ (totals_of (world h) l).escrow_advance)
    × (total_by (of_loan l.id held_by) (rows_in h) ≡ cash_of P (totals_of (world h) l))
    × (total_by (of_loan l.id advanced_by) (rows_in h) ≡ (totals_of (world h) l).pi_advance)
sums_are h l is found = (
  rows_are_totals escrow_by (λ (t : Totals). t.escrow_advance) l.id h escrow_totals is ∙ ap (found_by (λ (t : Totals). t.escrow_advance) (world h)) found,
  rows_are_totals held_by (cash_of P) l.id h held_totals is ∙ ap (found_by (cash_of P) (world h)) found,
  rows_are_totals advanced_by (λ (t : Totals). t.pi_advance) l.id h advanced_totals is ∙ ap (found_by (λ (t : Totals). t.pi_advance) (world h)) found,
)

-- five totals together
cash_within : (t : Totals) → IsTotal (total_of t Collected) → IsTotal (total_of t Fee) → IsTotal (total_of t PiAdvance) → IsTotal (total_of t Remitted) → IsTotal (total_of t Residual) → (neg_ℤ (pos 500_000_000_000_000_000) ≤ℤ cash_of P t) × (cash_of P t ≤ℤ pos 500_000_000_000_000_000)
cash_within t a b c d e =
    let a0 = a.0 in let a1 = a.1 in let b0 = b.0 in let b1 = b.1 in let c0 = c.0 in let c1 = c.1 in let d0 = d.0 in let d1 = d.1 in let e0 = e.0 in let e1 = e.1 in
    (omega (arith, ints, a0, b1, c0, d1, e1), omega (arith, ints, a1, b0, c1, d0, e0))

set_sums : (l : Held) (x x' y y' z z' : ℤ) → x ≡ x' → y ≡ y' → z ≡ z' → line_with l (record { escrow_advance = x; held = y; pi_advance = z }) ≡ line_with l (record { escrow_advance = x'; held = y'; pi_advance = z' })
set_sums l x x' y y' z z' ex ey ez =
    ap (λ v. line_with l (record { escrow_advance = v; held = y; pi_advance = z })) ex
    ∙ ap (λ v. line_with l (record { escrow_advance = x'; held = v; pi_advance = z })) ey
    ∙ ap (λ v. line_with l (record { escrow_advance = x'; held = y'; pi_advance = v })) ez

-- the line of a loan, from the sums of its rows
pub line_is_for : (h : List Accepted) (l : Held) → IsHistory h → find_loan l.id (world h).loans ≡ Some l → line_with l (kept_sums l.id (rows_in h)) ≡ line_for (world h) l
unfolding totals_of
line_is_for h l is found =
    let w = is_world h is in
    let held : IsHeld (length h) (world h).today l = found_all (IsHeld (length h) (world h).today) l.id (world h).loans l found w.held in
    let within = totals_within (world h) l held.limited w.reports in
    let sums = sums_are h l is found in
    let cash : cash_of P (totals_of (world h) l) ≡ held_for (world h) l = cash_is_held P (world h) l held.limited.account in
    let e = within EscrowAdvance in
    let p = within PiAdvance in
    let c = cash_within (totals_of (world h) l) (within Collected) (within Fee) (within PiAdvance) (within Remitted) (within Residual) in
    let e0 = e.0 in let e1 = e.1 in let p0 = p.0 in let p1 = p.1 in
    set_sums l _ _ _ _ _ _
    (ap kept sums.0 ∙ kept_is (totals_of (world h) l).escrow_advance (omega (arith, ints, e0)) (omega (arith, ints, e1)))
    (ap kept sums.1 ∙ kept_is (cash_of P (totals_of (world h) l)) c.0 c.1 ∙ cash)
    (ap kept sums.2 ∙ kept_is (totals_of (world h) l).pi_advance (omega (arith, ints, p0)) (omega (arith, ints, p1)))

-- ---- all loans, one after the other

-- the number in a place is that of the loan there
number_at : (h : List Accepted) (i : ℕ) (d : Held) → i < length (world h).loans → get_or (loans_of h) i 0 ≡ (get_or (world h).loans i d).id
number_at h i d lt = ap (λ ns. get_or ns i 0) (loans_are h) ∙ get_or-map (λ (l : Held). l.id) (world h).loans i d 0 lt

found_at : (h : List Accepted) (i : ℕ) (d : Held) → IsHistory h → i < length (world h).loans → find_loan (get_or (world h).loans i d).id (world h).loans ≡ Some (get_or (world h).loans i d)
found_at h i d is lt = all_found (world h).loans (is_world h is).rising i d lt

some_held : (ls : List Held) (i : ℕ) → i < length ls → Held
some_held [] i lt = absurd (omega arith)
some_held (l ∷ ls) i lt = l

pub is_there : (h : List Accepted) (i loan : ℕ) → IsHistory h → i < length (world h).loans → loan ≡ get_or (loans_of h) i 0 → is_some (find_loan loan (world h).loans) ≡ true
is_there h i loan is lt e =
    let d = some_held (world h).loans i lt in
    ap (λ n. is_some (find_loan n (world h).loans)) (e ∙ number_at h i d lt) ∙ ap is_some (found_at h i d is lt)

more_lines : (f : Held → StatementLine) (ls : List Held) (i : ℕ) (d : Held) → i < length ls → map f (take i ls) ++ (f (get_or ls i d) ∷ []) ≡ map f (take (suc i) ls)
more_lines f [] i d lt = absurd (omega arith)
more_lines f (l ∷ ls) zero d lt = refl
more_lines f (l ∷ ls) (suc i) d lt = ap (λ xs. f l ∷ xs) (more_lines f ls i d (omega arith))

found_line : (o : Option Held) (l : Held) (s : RowSums) (line : StatementLine) → o ≡ Some l → line_found o s line → line ≡ line_with l s
found_line o l s line e h = subst (λ x. line_found x s line) e h

-- one line more
pub next_line : (h : List Accepted) (i loan : ℕ) (s : RowSums) (line : StatementLine) (so_far : List StatementLine) → IsHistory h → i < length (world h).loans → loan ≡ get_or (loans_of h) i 0 → s ≡ kept_sums loan (rows_in h) → line_found (find_loan loan (world h).loans) s line → so_far ≡ map (line_for (world h)) (take i (world h).loans) → so_far ++ (line ∷ []) ≡ map (line_for (world h)) (take (i + 1) (world h).loans)
next_line h i loan s line so_far is lt e sums found so =
    let d = some_held (world h).loans i lt in
    let l = get_or (world h).loans i d in
    let number : loan ≡ l.id = e ∙ number_at h i d lt in
    let own : line ≡ line_with l s = found_line (find_loan loan (world h).loans) l s line (ap (λ n. find_loan n (world h).loans) number ∙ found_at h i d is lt) found in
    let is_it : line ≡ line_for (world h) l = own ∙ ap (line_with l) (sums ∙ ap (λ n. kept_sums n (rows_in h)) number) ∙ line_is_for h l is (found_at h i d is lt) in
    ap (λ x. so_far ++ (x ∷ [])) is_it ∙ ap (λ xs. xs ++ (line_for (world h) l ∷ [])) so
    ∙ more_lines (line_for (world h)) (world h).loans i d lt ∙ ap (λ k. map (line_for (world h)) (take k (world h).loans)) (sym (add-one i))

-- as many numbers as loans
pub as_many : (h : List Accepted) → length (loans_of h) ≡ length (world h).loans
as_many h = ap length (loans_are h) ∙ count (world h).loans
  where
    count : (ls : List Held) → length (numbers_of ls) ≡ length ls
    count [] = refl
    count (l ∷ ls) = ap suc (count ls)

pub few_loans : (h : List Accepted) → IsHistory h → length (stated_loans (world h)) ≤ 12_000
few_loans h is = let few = (is_world h is).few in let same = count (world h).loans in omega (arith, few, same)
  where
    count : (ls : List Held) → length (map (line_for (world h)) ls) ≡ length ls
    count [] = refl
    count (l ∷ ls) = ap suc (count ls)

pub lines_rise : (h : List Accepted) → IsHistory h → AllPairs Rattle.servicing_transfer.specs.Stated.rises (stated_loans (world h))
lines_rise h is = rise (world h).loans (is_world h is).rising
  where
    at : (ls : List Held) (i : ℕ) (d : Held) (e : StatementLine) → i < length ls → (get_or (map (line_for (world h)) ls) i e).loan ≡ (get_or ls i d).id
    at ls i d e lt = ap (λ (s : StatementLine). s.loan) (get_or-map (line_for (world h)) ls i d e lt)

    count : (ls : List Held) → length (map (line_for (world h)) ls) ≡ length ls
    count [] = refl
    count (l ∷ ls) = ap suc (count ls)

    rise : (ls : List Held) → AllPairs rises ls → AllPairs Rattle.servicing_transfer.specs.Stated.rises (map (line_for (world h)) ls)
    rise ls up i j e lt within =
        let n = count ls in
        let high : j < length ls = omega (arith, n, within) in
        let d = some_held ls j high in
        let a = at ls i d e (omega arith) in
        let b = at ls j d e high in
        let more = up i j d lt high in
        omega (arith, a, b, more)

-- ---- what both accounts hold

pub t_is : (w : World) → t_of (stated_loans w) ≡ (custody_of w).t
unfolding custody_of
t_is w = same w.loans
  where
    same : (ls : List Held) → t_of (map (line_for w) ls) ≡ total_by borrower_cash ls
    same [] = refl
    same (l ∷ ls) = let rest = same ls in omega (arith, ints, rest)

pub p_is : (w : World) → p_of (stated_loans w) ≡ (custody_of w).p
unfolding custody_of
p_is w = same w.loans
  where
    same : (ls : List Held) → p_of (map (line_for w) ls) ≡ total_by (held_for w) ls
    same [] = refl
    same (l ∷ ls) = let rest = same ls in omega (arith, ints, rest)

pub all_of : (f : Held → StatementLine) (ls : List Held) (i : ℕ) → i ≡ length ls → map f (take i ls) ≡ map f ls
all_of f ls i e = ap (λ k. map f (take k ls)) e ∙ ap (map f) (take-length ls)
