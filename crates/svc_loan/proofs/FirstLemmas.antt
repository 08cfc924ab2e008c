-- The first month in which a loan was boarded, after a change of loans.
use Rattle.std.proofs.Common.{◌≡◌, ℕ, List, [], ◌∷◌, map, true, false, refl, arith, ap, ◌∙◌}
use Rattle.std.specs.Prelude.{◌==◌, nat_lt, min, Some, if◌then◌else◌}
use Rattle.svc_world.specs.Held.{Held, boarded_month, changed, with_loan}
use Rattle.svc_world.specs.Refusals.{least_boarded}
use Rattle.svc_loan.specs.Loans.{first_boarded, earlier_of}

-- a change that leaves the boarded month of each leaves the first one
least_mapped : (f : Held → Held) (keeps : (l : Held) → boarded_month (f l) ≡ boarded_month l) (m : ℕ) (ls : List Held) → least_boarded m (map f ls) ≡ least_boarded m ls
least_mapped f keeps m [] = refl
least_mapped f keeps m (l ∷ ls) =
    ap (λ n. least_boarded (min m n) (map f ls)) (keeps l) ∙ least_mapped f keeps (min m (boarded_month l)) ls

pub first_mapped : (f : Held → Held) (ls : List Held) → ((l : Held) → boarded_month (f l) ≡ boarded_month l) → first_boarded (map f ls) ≡ first_boarded ls
first_mapped f [] keeps = refl
first_mapped f (l ∷ ls) keeps =
    ap (λ n. Some (least_boarded n (map f ls))) (keeps l) ∙ ap Some (least_mapped f keeps (boarded_month l) ls)

least_changed : (id : ℕ) (f : Held → Held) (keeps : (l : Held) → boarded_month (f l) ≡ boarded_month l) (m : ℕ) (ls : List Held) → least_boarded m (changed id f ls) ≡ least_boarded m ls
least_changed id f keeps m [] = refl
least_changed id f keeps m (l ∷ ls) =
    elim (l.id == id) as (λ b. least_boarded m (if b then f l ∷ ls else l ∷ changed id f ls) ≡ least_boarded (min m (boarded_month l)) ls) [
      | true ↦ ap (λ n. least_boarded (min m n) ls) (keeps l)
      | false ↦ least_changed id f keeps (min m (boarded_month l)) ls
    ]

pub first_changed : (id : ℕ) (f : Held → Held) (ls : List Held) → ((l : Held) → boarded_month (f l) ≡ boarded_month l) → first_boarded (changed id f ls) ≡ first_boarded ls
first_changed id f [] keeps = refl
first_changed id f (l ∷ ls) keeps =
    elim (l.id == id) as (λ b. first_boarded (if b then f l ∷ ls else l ∷ changed id f ls) ≡ Some (least_boarded (boarded_month l) ls)) [
      | true ↦ ap (λ n. Some (least_boarded n ls)) (keeps l)
      | false ↦ ap Some (least_changed id f keeps (boarded_month l) ls)
    ]

-- the least of some months, of which one may stand first
least_of_both : (m n : ℕ) (ls : List Held) → least_boarded (min m n) ls ≡ min m (least_boarded n ls)
least_of_both m n [] = refl
least_of_both m n (l ∷ ls) =
    let same : min (min m n) (boarded_month l) ≡ min m (min n (boarded_month l)) = omega arith in
    ap (λ x. least_boarded x ls) same ∙ least_of_both m (min n (boarded_month l)) ls

least_with : (l : Held) (m : ℕ) (ls : List Held) → least_boarded m (with_loan l ls) ≡ min (least_boarded m ls) (boarded_month l)
least_with l m [] = refl
least_with l m (k ∷ ks) =
    elim (nat_lt l.id k.id) as (λ b. least_boarded m (if b then l ∷ k ∷ ks else k ∷ with_loan l ks) ≡ min (least_boarded (min m (boarded_month k)) ks) (boarded_month l)) [
      | true ↦
          let turned : min (min m (boarded_month l)) (boarded_month k) ≡ min (boarded_month l) (min m (boarded_month k)) = omega arith in
          let rest : min (boarded_month l) (least_boarded (min m (boarded_month k)) ks) ≡ min (least_boarded (min m (boarded_month k)) ks) (boarded_month l) = omega arith in
          ap (λ x. least_boarded x ks) turned ∙ least_of_both (boarded_month l) (min m (boarded_month k)) ks ∙ rest
      | false ↦ least_with l (min m (boarded_month k)) ks
    ]

-- and with one loan more
pub first_with : (l : Held) (ls : List Held) → first_boarded (with_loan l ls) ≡ Some (earlier_of (first_boarded ls) (boarded_month l))
first_with l [] = refl
first_with l (k ∷ ks) =
    elim (nat_lt l.id k.id) as (λ b. first_boarded (if b then l ∷ k ∷ ks else k ∷ with_loan l ks) ≡ Some (min (least_boarded (boarded_month k) ks) (boarded_month l))) [
      | true ↦
          let turned : min (boarded_month l) (least_boarded (boarded_month k) ks) ≡ min (least_boarded (boarded_month k) ks) (boarded_month l) = omega arith in
          ap Some (least_of_both (boarded_month l) (boarded_month k) ks ∙ turned)
      | false ↦ ap Some (least_with l (boarded_month k) ks)
    ]
