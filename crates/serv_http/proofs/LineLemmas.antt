-- Lines of a stream that grows.
use Rattle.std.proofs.Common.{◌≡◌, ℕ, zero, suc, ◌<◌, ◌⊎◌, inl, inr, true, false, eqb, cond, List, [], ◌∷◌, ◌++◌, length, refl, sym, ap, ◌∙◌, subst, arith, append_assoc, length-append, Option, Some, None}
use Rattle.httparse.specs.Pieces.{is_newline}
use Rattle.serv_http.specs.Heads.{from_request_line, after_lines, begun, line_after}

pub after-append : (n : ℕ) (s m r : List ℕ) → after_lines n s ≡ Some r → after_lines n (s ++ m) ≡ Some (r ++ m)
unfolding after_lines
after-append zero s m r e = let q : s ≡ r = cc in rw q refl
after-append (suc n) [] m r e = absurd (cc)
after-append (suc n) (b ∷ s) m r e =
    elim (eqb b 10) as (λ t. cond t (after_lines n s) (after_lines (suc n) s) ≡ Some r
    → cond t (after_lines n (s ++ m)) (after_lines (suc n) (s ++ m)) ≡ Some (r ++ m)) [
      | true ↦ after-append n s m r
      | false ↦ after-append (suc n) s m r
    ] e

-- what stands after is a part of the end
pub after-part : (n : ℕ) (s r : List ℕ) → after_lines n s ≡ Some r → (f : List ℕ) × (s ≡ f ++ r)
unfolding after_lines
after-part zero s r e = ([], cc)
after-part (suc n) [] r e = absurd (cc)
after-part (suc n) (b ∷ s) r e =
    elim (eqb b 10) as (λ t. cond t (after_lines n s) (after_lines (suc n) s) ≡ Some r
    → (f : List ℕ) × (b ∷ s ≡ f ++ r)) [
      | true ↦ λ h. let p = after-part n s r h in (b ∷ p.0, ap (λ (x : List ℕ). b ∷ x) p.1)
      | false ↦ λ h. let p = after-part (suc n) s r h in (b ∷ p.0, ap (λ (x : List ℕ). b ∷ x) p.1)
    ] e

-- where more than m is left, the lines ended before m
pub after-cut : (n : ℕ) (s m r : List ℕ) → after_lines n (s ++ m) ≡ Some r → length m < length r
    → (q : List ℕ) × (r ≡ q ++ m) × (after_lines n s ≡ Some q)
unfolding after_lines
after-cut zero s m r e l = (s, cc, refl)
after-cut (suc n) [] m r e l =
    let p = after-part (suc n) m r e in absurd (omega (arith, ap length p.1, length-append p.0 r))
after-cut (suc n) (b ∷ s) m r e l =
    elim (eqb b 10) as (λ t. cond t (after_lines n (s ++ m)) (after_lines (suc n) (s ++ m)) ≡ Some r
    → (q : List ℕ) × (r ≡ q ++ m) × (cond t (after_lines n s) (after_lines (suc n) s) ≡ Some q)) [
      | true ↦ λ h. after-cut n s m r h l
      | false ↦ λ h. after-cut (suc n) s m r h l
    ] e

pub from-append : (s m : List ℕ) → ((from_request_line s ≡ []) × (from_request_line (s ++ m) ≡ from_request_line m))
    ⊎ (from_request_line (s ++ m) ≡ from_request_line s ++ m)
unfolding from_request_line
from-append [] m = inl (refl, refl)
from-append (b ∷ s) m =
    elim (is_newline b) as (λ t. ((cond t (from_request_line s) (b ∷ s) ≡ [])
    × (cond t (from_request_line (s ++ m)) (b ∷ (s ++ m)) ≡ from_request_line m))
    ⊎ (cond t (from_request_line (s ++ m)) (b ∷ (s ++ m)) ≡ cond t (from_request_line s) (b ∷ s) ++ m)) [
      | true ↦ from-append s m
      | false ↦ inr refl
    ]

pub from-part : (s : List ℕ) → (f : List ℕ) × (s ≡ f ++ from_request_line s)
unfolding from_request_line
from-part [] = ([], refl)
from-part (b ∷ s) =
    elim (is_newline b) as (λ t. (f : List ℕ) × (b ∷ s ≡ f ++ cond t (from_request_line s) (b ∷ s))) [
      | true ↦ let p = from-part s in (b ∷ p.0, ap (λ (x : List ℕ). b ∷ x) p.1)
      | false ↦ ([], refl)
    ]

-- a line that has begun
begun-is : (o : Option (List ℕ)) (r : List ℕ) → begun o ≡ Some r → (o ≡ Some r) × (0 < length r)
begun-is None r e = absurd (cc)
begun-is (Some []) r e = absurd (cc)
begun-is (Some (b ∷ s)) r e =
    elim (is_newline b) as (λ t. cond t None (Some (b ∷ s)) ≡ Some r → (Some (b ∷ s) ≡ Some r) × (0 < length r)) [
      | true ↦ λ h. absurd (cc)
      | false ↦ λ h. (h, let q : b ∷ s ≡ r = cc in subst (λ (x : List ℕ). 0 < length x) q (omega arith))
    ] e

begun-more : (q m : List ℕ) → begun (Some q) ≡ Some q → begun (Some (q ++ m)) ≡ Some (q ++ m)
begun-more [] m e = absurd (cc)
begun-more (b ∷ t) m e =
    elim (is_newline b) as (λ v. cond v None (Some (b ∷ t)) ≡ Some (b ∷ t)
    → cond v None (Some (b ∷ (t ++ m))) ≡ Some (b ∷ (t ++ m))) [
      | true ↦ λ h. absurd (cc)
      | false ↦ λ h. refl
    ] e

begun-front : (q m : List ℕ) → 0 < length q → begun (Some (q ++ m)) ≡ Some (q ++ m) → begun (Some q) ≡ Some q
begun-front [] m l e = absurd (omega arith)
begun-front (b ∷ t) m l e =
    elim (is_newline b) as (λ v. cond v None (Some (b ∷ (t ++ m))) ≡ Some (b ∷ (t ++ m))
    → cond v None (Some (b ∷ t)) ≡ Some (b ∷ t)) [
      | true ↦ λ h. absurd (cc)
      | false ↦ λ h. refl
    ] e

-- what a line that has begun says of the lines before it
pub line-is : (n : ℕ) (s r : List ℕ) → line_after n s ≡ Some r
    → (after_lines n (from_request_line s) ≡ Some r) × (0 < length r) × (begun (Some r) ≡ Some r)
unfolding line_after
line-is n s r e =
    let p = begun-is (after_lines n (from_request_line s)) r e in
    (p.0, p.1, ap begun (sym p.0) ∙ e)

pub line-from : (n : ℕ) (s r : List ℕ) → after_lines n (from_request_line s) ≡ Some r → begun (Some r) ≡ Some r
    → line_after n s ≡ Some r
unfolding line_after
line-from n s r e b = ap begun e ∙ b

-- without a request line there is no line after it
no-line : (n : ℕ) (s r : List ℕ) → from_request_line s ≡ [] → line_after n s ≡ Some r → ⊥
no-line n s r empty e =
    let p = line-is n s r e in
    let q : after_lines n [] ≡ Some r = subst (λ (x : List ℕ). after_lines n x ≡ Some r) empty p.0 in
    let f = after-part n [] r q in
    absurd (omega (arith, ap length f.1, length-append f.0 r, p.1))

pub line-append : (n : ℕ) (s m r : List ℕ) → line_after n s ≡ Some r → line_after n (s ++ m) ≡ Some (r ++ m)
line-append n s m r e =
    let p = line-is n s r e in
    elim (from-append s m) [
      | inl h ↦ absurd (no-line n s r h.0 e)
      | inr h ↦ line-from n (s ++ m) (r ++ m) (ap (after_lines n) h ∙ after-append n (from_request_line s) m r p.0)
          (begun-more r m p.2)
    ]

pub line-part : (n : ℕ) (s r : List ℕ) → line_after n s ≡ Some r → (f : List ℕ) × (s ≡ f ++ r)
line-part n s r e =
    let a = from-part s in
    let b = after-part n (from_request_line s) r (line-is n s r e).0 in
    (a.0 ++ b.0, a.1 ∙ ap (λ (x : List ℕ). a.0 ++ x) b.1 ∙ sym (append_assoc a.0 b.0 r))

pub line-some : (n : ℕ) (s r : List ℕ) → line_after n s ≡ Some r → 0 < length r
line-some n s r e = (line-is n s r e).1

pub line-cut : (n : ℕ) (s m r : List ℕ) → line_after n (s ++ m) ≡ Some r → length m < length r
    → (q : List ℕ) × (r ≡ q ++ m) × (line_after n s ≡ Some q)
line-cut n s m r e l =
    let p = line-is n (s ++ m) r e in
    elim (from-append s m) [
      | inl h ↦
          let q : after_lines n (from_request_line m) ≡ Some r =
          subst (λ (x : List ℕ). after_lines n x ≡ Some r) h.1 p.0 in
          let a = from-part m in
          let f = after-part n (from_request_line m) r q in
          absurd (omega (arith, ap length a.1, length-append a.0 (from_request_line m), ap length f.1, length-append f.0 r))
      | inr h ↦
          let c = after-cut n (from_request_line s) m r (subst (λ (x : List ℕ). after_lines n x ≡ Some r) h p.0) l in
          let some : 0 < length c.0 = omega (arith, ap length c.1, length-append c.0 m) in
          let b : begun (Some (c.0 ++ m)) ≡ Some (c.0 ++ m) =
          subst (λ (x : List ℕ). begun (Some x) ≡ Some x) c.1 p.2 in
          (c.0, c.1, line-from n s c.0 c.2 (begun-front c.0 m some b))
    ]
