-- What is kept of the rows of a loan, row by row and command by command.
use Rattle.std.proofs.Common.{◌≡◌, ℕ, ◌+◌, ◌≤◌, ◌<◌, Bool, true, false, cond, List, [], ◌∷◌, length, get_or, arith, refl, sym, ap, subst, ◌∙◌, ◌⊎◌, inl, inr, to_z, of_z}
use Rattle.std.specs.Prelude.{◌==◌, nat_le, nat_eq, Option, None, Some, ℤ, pos, ◌+ℤ◌, ◌-ℤ◌, neg_ℤ, FitsSigned, if◌then◌else◌}
use Rattle.std.specs.Int.{w64, int_wrap, int_wrapping_add, int_wrapping_sub}
use Rattle.std.specs.List.{All, filter, filter_map}
use Rattle.std.proofs.lemmas.Int.{ints, int_wrap-add_left, int_wrap_fits, wrapping_add_is, wrapping_sub_is, to_z-of_z}
use Rattle.std.proofs.lemmas.List.Elements.{All-cons, All-head, All-tail, All-nil, All-append}
use Rattle.std.proofs.lemmas.Bool.Decides.{nat_tests}
use Rattle.svc_base.specs.Sums.{total_by}
use Rattle.custodial_book.specs.declared.part.Part.{Part}
use Rattle.custodial_book.specs.declared.part.Part.TheVariants.{Received, Returned, Refunded, Disbursed, Collected, Fee, Late, PiAdvance, EscrowAdvance, Remitted, Residual}
use Rattle.custodial_book.specs.declared.row.Row.{Row}
use Rattle.custodial_book.specs.declared.row.Totals.{Totals}
use Rattle.custodial_book.specs.Parts.{parts}
use Rattle.custodial_book.specs.Rows.{total_of, row_of, rows_of, rows_of_command}
use Rattle.svc_world.specs.Held.{Held, find_loan}
use Rattle.svc_world.specs.World.{World, Accepted, first_world, after}
use Rattle.svc_world.specs.Custody.{totals_of, totals_before, rows_between, rows_made, rows_from, rows_in}
use Rattle.svc_world.proofs.CashLemmas.{rows_nil, rows_cons}
use Rattle.servicing_transfer.specs.declared.row_sums.RowSums.{RowSums}
use Rattle.servicing_transfer.specs.RowSums.{of_loan, held_by, advanced_by, escrow_by, kept, sums_with, with_own, with_rows, no_sums, kept_sums}

-- ---- row by row

abbrev kept_as : ℤ → ℤ → ℤ → RowSums
kept_as x y z = record { escrow_advance = kept x; held = kept y; pi_advance = kept z }

more_kept : (x y z a b c : ℤ) → sums_with (kept_as x y z) a b c ≡ kept_as (x +ℤ a) (y +ℤ b) (z +ℤ c)
more_kept x y z a b c =
    ap (λ e. record { escrow_advance = e; held = kept (kept y +ℤ b); pi_advance = kept (kept z +ℤ c) }) (int_wrap-add_left w64 x a)
    ∙ ap (λ e. record { escrow_advance = kept (x +ℤ a); held = e; pi_advance = kept (kept z +ℤ c) }) (int_wrap-add_left w64 y b)
    ∙ ap (λ e. record { escrow_advance = kept (x +ℤ a); held = kept (y +ℤ b); pi_advance = e }) (int_wrap-add_left w64 z c)

same_kept : (x y z x' y' z' : ℤ) → x ≡ x' → y ≡ y' → z ≡ z' → kept_as x y z ≡ kept_as x' y' z'
same_kept x y z x' y' z' ex ey ez = ap (λ e. kept_as e y z) ex ∙ ap (λ e. kept_as x' e z) ey ∙ ap (λ e. kept_as x' y' e) ez

nothing_more : (x : ℤ) → x ≡ x +ℤ pos 0
nothing_more x = omega (arith, ints)

own_kept : (id : ℕ) (row : Row) (x y z : ℤ) → with_own id row (kept_as x y z) ≡ kept_as (x +ℤ of_loan id escrow_by row) (y +ℤ of_loan id held_by row) (z +ℤ of_loan id advanced_by row)
own_kept id row x y z =
    elim (row.loan == id) as (λ v. (if v then sums_with (kept_as x y z) (escrow_by row.part row.cents) (held_by row.part row.cents) (advanced_by row.part row.cents) else kept_as x y z) ≡ kept_as (x +ℤ (if v then escrow_by row.part row.cents else pos 0)) (y +ℤ (if v then held_by row.part row.cents else pos 0)) (z +ℤ (if v then advanced_by row.part row.cents else pos 0))) [
      | true ↦ more_kept x y z (escrow_by row.part row.cents) (held_by row.part row.cents) (advanced_by row.part row.cents)
      | false ↦ same_kept x y z (x +ℤ pos 0) (y +ℤ pos 0) (z +ℤ pos 0) (nothing_more x) (nothing_more y) (nothing_more z)
    ]

joined : (a b c : ℤ) → (a +ℤ b) +ℤ c ≡ a +ℤ (b +ℤ c)
joined a b c = omega (arith, ints)

pub rows_kept : (id : ℕ) (rows : List Row) (x y z : ℤ) → with_rows id rows (kept_as x y z) ≡ kept_as (x +ℤ total_by (of_loan id escrow_by) rows) (y +ℤ total_by (of_loan id held_by) rows) (z +ℤ total_by (of_loan id advanced_by) rows)
rows_kept id [] x y z = same_kept x y z (x +ℤ pos 0) (y +ℤ pos 0) (z +ℤ pos 0) (nothing_more x) (nothing_more y) (nothing_more z)
rows_kept id (row ∷ rows) x y z =
    let e = of_loan id escrow_by row in
    let h = of_loan id held_by row in
    let a = of_loan id advanced_by row in
    ap (with_rows id rows) (own_kept id row x y z)
    ∙ rows_kept id rows (x +ℤ e) (y +ℤ h) (z +ℤ a)
    ∙ same_kept ((x +ℤ e) +ℤ total_by (of_loan id escrow_by) rows) ((y +ℤ h) +ℤ total_by (of_loan id held_by) rows) ((z +ℤ a) +ℤ total_by (of_loan id advanced_by) rows)
    (x +ℤ (e +ℤ total_by (of_loan id escrow_by) rows)) (y +ℤ (h +ℤ total_by (of_loan id held_by) rows)) (z +ℤ (a +ℤ total_by (of_loan id advanced_by) rows))
    (joined x e (total_by (of_loan id escrow_by) rows)) (joined y h (total_by (of_loan id held_by) rows)) (joined z a (total_by (of_loan id advanced_by) rows))

-- ---- command by command

abbrev pub up_to : ℕ → Row → Bool
up_to n row = nat_le row.number n

pub one_more : (f : Row → ℤ) (n : ℕ) (rows : List Row) → total_by f (filter (up_to (n + 1)) rows) ≡ total_by f (filter (up_to n) rows) +ℤ total_by f (rows_of_command (n + 1) rows)
one_more f n [] = omega (arith, ints)
one_more f n (r ∷ rs) =
    let rest = one_more f n rs in
    elim (nat_le r.number n) as (λ v. nat_le r.number n ≡ v → total_by f (filter (up_to (n + 1)) (r ∷ rs)) ≡ total_by f (cond v (r ∷ filter (up_to n) rs) (filter (up_to n) rs)) +ℤ total_by f (rows_of_command (n + 1) (r ∷ rs))) [
      | true ↦ λ e.
          let a : nat_le r.number (n + 1) ≡ true = grind (arith, nat_tests) in
          let b : nat_eq r.number (n + 1) ≡ false = grind (arith, nat_tests) in
          ap (λ v. total_by f (cond v (r ∷ filter (up_to (n + 1)) rs) (filter (up_to (n + 1)) rs))) a
          ∙ first (f r) (total_by f (filter (up_to (n + 1)) rs)) (total_by f (filter (up_to n) rs)) (total_by f (rows_of_command (n + 1) rs)) rest
          ∙ sym (ap (λ v. total_by f (r ∷ filter (up_to n) rs) +ℤ total_by f (cond v (r ∷ rows_of_command (n + 1) rs) (rows_of_command (n + 1) rs))) b)
      | false ↦ λ e. elim (nat_eq r.number (n + 1)) as (λ v. nat_eq r.number (n + 1) ≡ v → total_by f (filter (up_to (n + 1)) (r ∷ rs)) ≡ total_by f (filter (up_to n) rs) +ℤ total_by f (cond v (r ∷ rows_of_command (n + 1) rs) (rows_of_command (n + 1) rs))) [
        | true ↦ λ e'.
            let a : nat_le r.number (n + 1) ≡ true = grind (arith, nat_tests) in
            ap (λ v. total_by f (cond v (r ∷ filter (up_to (n + 1)) rs) (filter (up_to (n + 1)) rs))) a
            ∙ second (f r) (total_by f (filter (up_to (n + 1)) rs)) (total_by f (filter (up_to n) rs)) (total_by f (rows_of_command (n + 1) rs)) rest
        | false ↦ λ e'.
            let a : nat_le r.number (n + 1) ≡ false = grind (arith, nat_tests) in
            ap (λ v. total_by f (cond v (r ∷ filter (up_to (n + 1)) rs) (filter (up_to (n + 1)) rs))) a ∙ rest
      ] refl
    ] refl
  where
    first : (r x y z : ℤ) → x ≡ y +ℤ z → r +ℤ x ≡ (r +ℤ y) +ℤ z
    first r x y z e = omega (arith, ints)

    second : (r x y z : ℤ) → x ≡ y +ℤ z → r +ℤ x ≡ y +ℤ (r +ℤ z)
    second r x y z e = omega (arith, ints)

-- a row's number is one of those after n, up to a last one
pub record IsAmong (n last : ℕ) (row : Row) : Type 0 where
  pub low : n < row.number
  pub high : row.number ≤ last

abbrev IsOf : ℕ → Row → Type 0
IsOf n row = row.number ≡ n

own_number : (n id : ℕ) (before later : Totals) (ps : List Part) → All (IsOf n) (filter_map (row_of n id before later) ps)
unfolding row_of
own_number n id before later [] = All-nil (IsOf n)
own_number n id before later (p ∷ ps) =
    let z = total_of later p -ℤ total_of before p in
    let rest = own_number n id before later ps in
    elim (Rattle.std.specs.Ordering.int_eq z (pos 0)) as (λ v. All (IsOf n) (put (if v then None else Some (record { number = n; loan = id; part = p; cents = z })) (filter_map (row_of n id before later) ps))) [
      | true ↦ rest
      | false ↦ All-cons (IsOf n) (record { number = n; loan = id; part = p; cents = z }) (filter_map (row_of n id before later) ps) refl rest
    ]
  where
    put : Option Row → List Row → List Row
    put None rs = rs
    put (Some r) rs = r ∷ rs

between_number : (n : ℕ) (before later : World) (ls : List Held) → All (IsOf n) (rows_between n before later ls)
between_number n before later [] = subst (All (IsOf n)) (sym (rows_nil n before later)) (All-nil (IsOf n))
between_number n before later (l ∷ ls) =
    subst (All (IsOf n)) (sym (rows_cons n before later l ls))
    (All-append (IsOf n) (rows_of n l.id (totals_before before (find_loan l.id before.loans)) (totals_of later l)) (rows_between n before later ls)
    (own_number n l.id (totals_before before (find_loan l.id before.loans)) (totals_of later l) parts) (between_number n before later ls))

pub rows_among : (n : ℕ) (w : World) (more : List Accepted) → All (IsAmong n (n + length more)) (rows_from n w more)
unfolding rows_from
rows_among n w [] = All-nil (IsAmong n (n + 0))
rows_among n w (a ∷ more) =
    let later = after (n + 1) w a.command in
    let rest = rows_among (n + 1) later more in
    All-append (IsAmong n (n + length (a ∷ more))) (rows_made (n + 1) w later) (rows_from (n + 1) later more)
    (λ i d lt. here (get_or (rows_made (n + 1) w later) i d) (between_number (n + 1) w later later.loans i d lt))
    (λ i d lt. there (get_or (rows_from (n + 1) later more) i d) (rest i d lt))
  where
    here : (r : Row) → r.number ≡ n + 1 → IsAmong n (n + length (a ∷ more)) r
    here r e = record { low = omega arith; high = omega arith }

    there : (r : Row) → IsAmong (n + 1) (n + 1 + length more) r → IsAmong n (n + length (a ∷ more)) r
    there r h = let l = h.low in let t = h.high in record { low = omega arith; high = omega arith }

-- none of the rows is of a command before the first, and all are of the commands up to the last
pub none_first : (last : ℕ) (rows : List Row) → All (IsAmong 0 last) rows → filter (up_to 0) rows ≡ []
none_first last [] h = refl
none_first last (r ∷ rs) h =
    let low : 0 < r.number = (All-head (IsAmong 0 last) r rs h).low in
    let past : nat_le r.number 0 ≡ false = grind (arith, nat_tests) in
    ap (λ v. cond v (r ∷ filter (up_to 0) rs) (filter (up_to 0) rs)) past ∙ none_first last rs (All-tail (IsAmong 0 last) r rs h)

pub all_last : (last : ℕ) (rows : List Row) → All (IsAmong 0 last) rows → filter (up_to last) rows ≡ rows
all_last last [] h = refl
all_last last (r ∷ rs) h =
    let high : r.number ≤ last = (All-head (IsAmong 0 last) r rs h).high in
    let within : nat_le r.number last ≡ true = grind (arith, nat_tests) in
    ap (λ v. cond v (r ∷ filter (up_to last) rs) (filter (up_to last) rs)) within ∙ ap (λ xs. r ∷ xs) (all_last last rs (All-tail (IsAmong 0 last) r rs h))

-- what is kept after one command more
pub sums_more : (id n : ℕ) (rows : List Row) → with_rows id (rows_of_command (n + 1) rows) (kept_sums id (filter (up_to n) rows)) ≡ kept_sums id (filter (up_to (n + 1)) rows)
sums_more id n rows =
    let next = rows_of_command (n + 1) rows in
    let so_far = filter (up_to n) rows in
    rows_kept id next (total_by (of_loan id escrow_by) so_far) (total_by (of_loan id held_by) so_far) (total_by (of_loan id advanced_by) so_far)
    ∙ same_kept (total_by (of_loan id escrow_by) so_far +ℤ total_by (of_loan id escrow_by) next) (total_by (of_loan id held_by) so_far +ℤ total_by (of_loan id held_by) next) (total_by (of_loan id advanced_by) so_far +ℤ total_by (of_loan id advanced_by) next)
    (total_by (of_loan id escrow_by) (filter (up_to (n + 1)) rows)) (total_by (of_loan id held_by) (filter (up_to (n + 1)) rows)) (total_by (of_loan id advanced_by) (filter (up_to (n + 1)) rows))
    (sym (one_more (of_loan id escrow_by) n rows)) (sym (one_more (of_loan id held_by) n rows)) (sym (one_more (of_loan id advanced_by) n rows))

-- before the first command nothing is kept
pub sums_first : (id : ℕ) (h : List Accepted) → no_sums ≡ kept_sums id (filter (up_to 0) (rows_in h))
unfolding int_wrap
sums_first id h =
    let zero : kept (pos 0) ≡ pos 0 = refl in
    ap (λ z. record { escrow_advance = z; held = z; pi_advance = z }) (sym zero)
    ∙ ap (kept_sums id) (sym (none_first (0 + length h) (rows_in h) (rows_among 0 first_world h)))

-- and after the last all of it is
pub sums_last : (id n : ℕ) (h : List Accepted) → n ≡ length h → kept_sums id (filter (up_to n) (rows_in h)) ≡ kept_sums id (rows_in h)
sums_last id n h e =
    let last : 0 + length h ≡ n = omega (arith, e) in
    ap (λ k. kept_sums id (filter (up_to k) (rows_in h))) (sym last) ∙ ap (kept_sums id) (all_last (0 + length h) (rows_in h) (rows_among 0 first_world h))

-- ---- one row's cents

pub added : (a b : ℤ) → FitsSigned w64 a → FitsSigned w64 b → int_wrapping_add w64 a b ≡ kept (a +ℤ b)
added a b f g = wrapping_add_is w64 a b f g

pub taken : (a b : ℤ) → FitsSigned w64 a → FitsSigned w64 b → int_wrapping_sub w64 a b ≡ kept (a +ℤ neg_ℤ b)
taken a b f g = wrapping_sub_is w64 a b f g ∙ ap kept minus
  where
    minus : a -ℤ b ≡ a +ℤ neg_ℤ b
    minus = omega (arith, ints)

pub left_as : (a z : ℤ) → FitsSigned w64 a → z ≡ pos 0 → to_z w64 (of_z w64 a) ≡ kept (a +ℤ z)
left_as a z f e = to_z-of_z w64 a f ∙ sym (ap kept same ∙ int_wrap_fits w64 a f)
  where
    same : a +ℤ z ≡ a
    same = omega (arith, ints, e)

pub no_escrow : (p : Part) (z : ℤ) → (p ≡ EscrowAdvance → ⊥) → escrow_by p z ≡ pos 0
no_escrow Received z h = refl
no_escrow Returned z h = refl
no_escrow Refunded z h = refl
no_escrow Disbursed z h = refl
no_escrow Collected z h = refl
no_escrow Fee z h = refl
no_escrow Late z h = refl
no_escrow PiAdvance z h = refl
no_escrow EscrowAdvance z h = absurd (h refl)
no_escrow Remitted z h = refl
no_escrow Residual z h = refl

pub no_advance : (p : Part) (z : ℤ) → (p ≡ PiAdvance → ⊥) → advanced_by p z ≡ pos 0
no_advance Received z h = refl
no_advance Returned z h = refl
no_advance Refunded z h = refl
no_advance Disbursed z h = refl
no_advance Collected z h = refl
no_advance Fee z h = refl
no_advance Late z h = refl
no_advance PiAdvance z h = absurd (h refl)
no_advance EscrowAdvance z h = refl
no_advance Remitted z h = refl
no_advance Residual z h = refl

-- what comes into the account P, and what goes out of it
more : (z : ℤ) → z ≡ z -ℤ pos 0
more z = omega (arith, ints)

less : (z : ℤ) → neg_ℤ z ≡ pos 0 -ℤ z
less z = omega (arith, ints)

pub held_in : (p : Part) (z : ℤ) → (p ≡ Collected) ⊎ (p ≡ PiAdvance) → z ≡ held_by p z
unfolding Rattle.custodial_book.specs.Rows.moved
held_in p z (inl e) = more z ∙ ap (λ q. held_by q z) (sym e)
held_in p z (inr e) = more z ∙ ap (λ q. held_by q z) (sym e)

pub held_out : (p : Part) (z : ℤ) → (p ≡ Fee) ⊎ (p ≡ Remitted) ⊎ (p ≡ Residual) → neg_ℤ z ≡ held_by p z
unfolding Rattle.custodial_book.specs.Rows.moved
held_out p z (inl e) = less z ∙ ap (λ q. held_by q z) (sym e)
held_out p z (inr (inl e)) = less z ∙ ap (λ q. held_by q z) (sym e)
held_out p z (inr (inr e)) = less z ∙ ap (λ q. held_by q z) (sym e)

pub no_held : (p : Part) (z : ℤ) → (p ≡ Collected → ⊥) → (p ≡ PiAdvance → ⊥) → (p ≡ Fee → ⊥) → (p ≡ Remitted → ⊥) → (p ≡ Residual → ⊥) → held_by p z ≡ pos 0
unfolding Rattle.custodial_book.specs.Rows.moved
no_held Received z c a f r s = omega (arith, ints)
no_held Returned z c a f r s = omega (arith, ints)
no_held Refunded z c a f r s = omega (arith, ints)
no_held Disbursed z c a f r s = omega (arith, ints)
no_held Collected z c a f r s = absurd (c refl)
no_held Fee z c a f r s = absurd (f refl)
no_held Late z c a f r s = omega (arith, ints)
no_held PiAdvance z c a f r s = absurd (a refl)
no_held EscrowAdvance z c a f r s = omega (arith, ints)
no_held Remitted z c a f r s = absurd (r refl)
no_held Residual z c a f r s = absurd (s refl)
