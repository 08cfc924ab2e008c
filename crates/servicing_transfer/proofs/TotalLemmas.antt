-- What both custodial accounts hold for some first loans.
use Rattle.std.proofs.Common.{◌≡◌, ℕ, zero, suc, add-one, ◌+◌, ◌<◌, List, [], ◌∷◌, length, ◌*◌, ◌^◌, take, get_or, sym, ap, subst, ◌∙◌, arith, to_z, of_z, true, false, ◌⊎◌, inl, inr}
use Rattle.std.specs.Int.{w128}
use Rattle.std.specs.Prelude.{ℤ, pos, neg_ℤ, ◌+ℤ◌, ◌≤ℤ◌, FitsSigned}
use Rattle.std.proofs.lemmas.Int.{ints, to_z-of_z}
use Rattle.svc_base.specs.Sums.{total_by}
use Rattle.servicing_transfer.specs.declared.statement_line.StatementLine.{StatementLine}
use Rattle.servicing_transfer.specs.StatementTexts.{t_of, p_of}
use Rattle.servicing_transfer.specs.Stated.{IsStatedBalance, IsStatedLine}

sum_next : (f : StatementLine → ℤ) (xs : List StatementLine) (i : ℕ) (d : StatementLine) → i < length xs → total_by f (take (suc i) xs) ≡ total_by f (take i xs) +ℤ f (get_or xs i d)
sum_next f [] i d lt = absurd (omega arith)
sum_next f (x ∷ xs) zero d lt = alone (f x)
  where
    alone : (z : ℤ) → z +ℤ pos 0 ≡ pos 0 +ℤ z
    alone z = omega (arith, ints)
sum_next f (x ∷ xs) (suc i) d lt = ap (λ z. f x +ℤ z) (sum_next f xs i d (omega arith)) ∙ joined (f x) (total_by f (take i xs)) (f (get_or xs i d))
  where
    joined : (a b c : ℤ) → a +ℤ (b +ℤ c) ≡ (a +ℤ b) +ℤ c
    joined a b c = omega (arith, ints)

pub t_more : (xs : List StatementLine) (i : ℕ) (d : StatementLine) → i < length xs → t_of (take (i + 1) xs) ≡ t_of (take i xs) +ℤ ((get_or xs i d).escrow +ℤ (get_or xs i d).suspense +ℤ (get_or xs i d).escrow_advance)
t_more xs i d lt = ap (λ k. t_of (take k xs)) (add-one i) ∙ sum_next (λ (s : StatementLine). s.escrow +ℤ s.suspense +ℤ s.escrow_advance) xs i d lt

pub p_more : (xs : List StatementLine) (i : ℕ) (d : StatementLine) → i < length xs → p_of (take (i + 1) xs) ≡ p_of (take i xs) +ℤ (get_or xs i d).held
p_more xs i d lt = ap (λ k. p_of (take k xs)) (add-one i) ∙ sum_next (λ (s : StatementLine). s.held) xs i d lt

-- ---- one loan more, in 128 bits

abbrev added : ℕ → ℤ → ℤ
added bits cash = to_z w128 (of_z w128 (to_z w128 bits +ℤ to_z w128 (of_z w128 cash)))

fits_within : (z : ℤ) → neg_ℤ (pos 2_000_000_000_000_000_000_000_000_000_000) ≤ℤ z → z ≤ℤ pos 2_000_000_000_000_000_000_000_000_000_000 → FitsSigned w128 z
fits_within z low high = omega (arith, ints, low, high)

sum_kept : (bits : ℕ) (t cash : ℤ) → to_z w128 bits ≡ t → FitsSigned w128 cash → FitsSigned w128 (t +ℤ cash) → added bits cash ≡ t +ℤ cash
sum_kept bits t cash is fits all =
    let whole : to_z w128 bits +ℤ to_z w128 (of_z w128 cash) ≡ t +ℤ cash = ap (λ z. z +ℤ to_z w128 (of_z w128 cash)) is ∙ ap (λ z. t +ℤ z) (to_z-of_z w128 cash fits) in
    ap (λ z. to_z w128 (of_z w128 z)) whole ∙ to_z-of_z w128 (t +ℤ cash) all

pub t_fits : (i : ℕ) (bits : ℕ) (s : StatementLine) (t cash : ℤ) → i < 2 ^ 32 → IsStatedLine s → to_z w128 bits ≡ t → neg_ℤ (pos (300_000_000_000_000_000_000 * i)) ≤ℤ t → t ≤ℤ pos (300_000_000_000_000_000_000 * i) → cash ≡ s.escrow +ℤ s.suspense +ℤ s.escrow_advance → FitsSigned w128 (to_z w128 bits +ℤ to_z w128 (of_z w128 cash))
t_fits i bits s t cash few is at low high e =
    let a = is.escrow.low in let b = is.escrow.high in let c = is.suspense.low in let d = is.suspense.high in let f = is.escrow_advance.low in let g = is.escrow_advance.high in
    let fits : FitsSigned w128 cash = fits_within cash (omega (arith, ints, e, a, c, f)) (omega (arith, ints, e, b, d, g)) in
    let all : FitsSigned w128 (t +ℤ cash) = fits_within (t +ℤ cash) (omega (arith, ints, e, a, c, f, low, few)) (omega (arith, ints, e, b, d, g, high, few)) in
    let whole : to_z w128 bits +ℤ to_z w128 (of_z w128 cash) ≡ t +ℤ cash = ap (λ z. z +ℤ to_z w128 (of_z w128 cash)) at ∙ ap (λ z. t +ℤ z) (to_z-of_z w128 cash fits) in
    subst (FitsSigned w128) (sym whole) all

pub record IsNextT (xs : List StatementLine) (i : ℕ) (z : ℤ) : Type 0 where
  pub sum : z ≡ t_of (take (i + 1) xs)
  pub low : neg_ℤ (pos (300_000_000_000_000_000_000 * (i + 1))) ≤ℤ z
  pub high : z ≤ℤ pos (300_000_000_000_000_000_000 * (i + 1))

pub t_step : (xs : List StatementLine) (i bits : ℕ) (s : StatementLine) (t cash : ℤ) → i < length xs → i < 2 ^ 32 → s ≡ get_or xs i s → IsStatedLine s → to_z w128 bits ≡ t → t ≡ t_of (take i xs) → neg_ℤ (pos (300_000_000_000_000_000_000 * i)) ≤ℤ t → t ≤ℤ pos (300_000_000_000_000_000_000 * i) → cash ≡ s.escrow +ℤ s.suspense +ℤ s.escrow_advance → IsNextT xs i (added bits cash)
t_step xs i bits s t cash lt few at is bits_is sum low high e =
    let a = is.escrow.low in let b = is.escrow.high in let c = is.suspense.low in let d = is.suspense.high in let f = is.escrow_advance.low in let g = is.escrow_advance.high in
    let fits : FitsSigned w128 cash = fits_within cash (omega (arith, ints, e, a, c, f)) (omega (arith, ints, e, b, d, g)) in
    let all : FitsSigned w128 (t +ℤ cash) = fits_within (t +ℤ cash) (omega (arith, ints, e, a, c, f, low, few)) (omega (arith, ints, e, b, d, g, high, few)) in
    let kept : added bits cash ≡ t +ℤ cash = sum_kept bits t cash bits_is fits all in
    record {
      sum = kept ∙ ap (λ z. z +ℤ cash) sum ∙ ap (λ z. t_of (take i xs) +ℤ z) (e ∙ ap (λ (x : StatementLine). x.escrow +ℤ x.suspense +ℤ x.escrow_advance) at) ∙ sym (t_more xs i s lt);
      low = omega (arith, ints, kept, e, a, c, f, low);
      high = omega (arith, ints, kept, e, b, d, g, high);
    }

pub record IsNextP (xs : List StatementLine) (i : ℕ) (z : ℤ) : Type 0 where
  pub sum : z ≡ p_of (take (i + 1) xs)
  pub low : pos 0 ≤ℤ z
  pub high : z ≤ℤ pos (100_000_000_000_000_000_000 * (i + 1))

pub p_step : (xs : List StatementLine) (i bits : ℕ) (s : StatementLine) (p : ℤ) → i < length xs → i < 2 ^ 32 → s ≡ get_or xs i s → IsStatedLine s → to_z w128 bits ≡ p → p ≡ p_of (take i xs) → pos 0 ≤ℤ p → p ≤ℤ pos (100_000_000_000_000_000_000 * i) → IsNextP xs i (added bits s.held)
p_step xs i bits s p lt few at is bits_is sum low high =
    let a = is.held.low in let b = is.held.high in
    let fits : FitsSigned w128 s.held = fits_within s.held (omega (arith, ints, a)) (omega (arith, ints, b)) in
    let all : FitsSigned w128 (p +ℤ s.held) = fits_within (p +ℤ s.held) (omega (arith, ints, a, low)) (omega (arith, ints, b, high, few)) in
    let kept : added bits s.held ≡ p +ℤ s.held = sum_kept bits p s.held bits_is fits all in
    record {
      sum = kept ∙ ap (λ z. z +ℤ s.held) sum ∙ ap (λ z. p_of (take i xs) +ℤ z) (ap (λ (x : StatementLine). x.held) at) ∙ sym (p_more xs i s lt);
      low = omega (arith, ints, kept, a, low);
      high = omega (arith, ints, kept, b, high);
    }

-- an amount that cannot be stated
pub not_stated : (z z2 : ℤ) → z ≡ z2 → (false ≡ true) ⊎ (IsStatedBalance z → ⊥) → IsStatedBalance z2 → ⊥
not_stated z z2 e (inl never) is = cc
not_stated z z2 e (inr other) is = other (subst IsStatedBalance (sym e) is)
