-- The adjustments of a command are those of the loan that it changed, from the changed month on.
use Rattle.std.proofs.Common.{◌≡◌, ℕ, zero, suc, ◌+◌, ◌-◌, ◌≤◌, ◌<◌, true, false, cond, List, [], ◌∷◌, ◌++◌, map, length, get_or, arith, refl, sym, ap, ◌∙◌, append-nil}
use Rattle.std.specs.Prelude.{◌==◌, nat_lt, nat_le, ℤ, pos, ◌-ℤ◌, Option, Some, None, if◌then◌else◌}
use Rattle.std.specs.List.{All, range_with_len}
use Rattle.std.proofs.lemmas.Int.{ints}
use Rattle.std.proofs.lemmas.List.{append_assoc}
use Rattle.std.proofs.lemmas.List.Elements.{All-cons, All-head, All-tail, All-nil}
use Rattle.std.proofs.lemmas.Bool.Decides.{Decides-int_eq, nat_tests}
use Rattle.remit_types.specs.declared.dues.MonthDue.{MonthDue}
use Rattle.remit_types.specs.Dues.{carried_first, due_between}
use Rattle.period_adjust.specs.Sealed.{Sealed}
use Rattle.period_adjust.specs.Changes.{is_unchanged, change_of, adjustments_of}
use Rattle.period_adjust.specs.Kept.{AreConsecutive}
use Rattle.svc_world.specs.Held.{Held, find_loan, with_loan, changed, boarded_month}
use Rattle.svc_world.specs.LoanDues.{carried_to, carry_of, due_of}
use Rattle.svc_world.specs.Reports.{nothing_due, months_of, dues_for, changes_of}
use Rattle.svc_world.proofs.AgreeLemmas.{AgreeTo, same_due}
use Rattle.svc_world.proofs.CarryLemmas.{carried_none}
use Rattle.svc_world.proofs.LoanListLemmas.{IsFound, KeepsNumber}

-- ---- dues that did not change have no adjustment

unchanged-same : (b d : MonthDue) → b.interest ≡ d.interest → b.principal ≡ d.principal → is_unchanged b d ≡ true
unchanged-same b d i p =
    let one = (Decides-int_eq b.interest d.interest).1 i in
    let two = (Decides-int_eq b.principal d.principal).1 p in
    rw (one, two) refl

change_none : (n id : ℕ) (b d : MonthDue) → b.interest ≡ d.interest → b.principal ≡ d.principal → change_of n id b d ≡ []
change_none n id b d i p = let same = unchanged-same b d i p in rw same refl

-- dues of the same interest and principal
pub record IsSameDue (b d : MonthDue) : Type 0 where
  pub interest : b.interest ≡ d.interest
  pub principal : b.principal ≡ d.principal

pub equal_due : (b d : MonthDue) → d ≡ b → IsSameDue b d
equal_due b d e = record { interest = ap (λ (x : MonthDue). x.interest) (sym e); principal = ap (λ (x : MonthDue). x.principal) (sym e) }

pub adjusts_none : (n id : ℕ) (f g : ℕ → MonthDue) (months : List ℕ) → All (λ p. IsSameDue (f p) (g p)) months → adjustments_of n id (map f months) (map g months) ≡ []
adjusts_none n id f g [] h = refl
adjusts_none n id f g (p ∷ ps) h =
    let here = All-head (λ q. IsSameDue (f q) (g q)) p ps h in
    ap (λ xs. xs ++ adjustments_of n id (map f ps) (map g ps)) (change_none n id (f p) (g p) here.interest here.principal) ∙ adjusts_none n id f g ps (All-tail (λ q. IsSameDue (f q) (g q)) p ps h)

pub adjusts_append : (n id : ℕ) (f g : ℕ → MonthDue) (ms ns : List ℕ) → adjustments_of n id (map f (ms ++ ns)) (map g (ms ++ ns)) ≡ adjustments_of n id (map f ms) (map g ms) ++ adjustments_of n id (map f ns) (map g ns)
adjusts_append n id f g [] ns = refl
adjusts_append n id f g (p ∷ ps) ns =
    ap (λ xs. change_of n id (f p) (g p) ++ xs) (adjusts_append n id f g ps ns) ∙ sym (append_assoc (change_of n id (f p) (g p)) (adjustments_of n id (map f ps) (map g ps)) (adjustments_of n id (map f ns) (map g ns)))

-- ---- ranges of months

pub range_all : (P : ℕ → Type 0) (m n : ℕ) → ((p : ℕ) → m ≤ p → p < m + n → P p) → All P (range_with_len m n)
range_all P m zero h = All-nil P
range_all P m (suc n) h = All-cons P m (range_with_len (m + 1) n) (h m (omega arith) (omega arith)) (range_all P (m + 1) n (λ p low high. h p (omega arith) (omega arith)))

pub range_split : (m a b : ℕ) → range_with_len m (a + b) ≡ range_with_len m a ++ range_with_len (m + a) b
range_split m zero b =
    let e : 0 + b ≡ b = omega arith in
    let e' : m + 0 ≡ m = omega arith in
    ap (range_with_len m) e ∙ ap (λ x. range_with_len x b) (sym e')
range_split m (suc a) b =
    let e : suc a + b ≡ suc (a + b) = omega arith in
    let e' : m + 1 + a ≡ m + suc a = omega arith in
    ap (range_with_len m) e ∙ ap (λ xs. m ∷ xs) (range_split (m + 1) a b ∙ ap (λ x. range_with_len (m + 1) a ++ range_with_len x b) e')

-- the closed months follow one another
pub months_are : (r : Sealed) (rs : List Sealed) → AreConsecutive (r ∷ rs) → months_of (r ∷ rs) ≡ range_with_len r.month (suc (length rs))
months_are r [] h = refl
months_are r (s ∷ rs) h =
    let next : s.month ≡ r.month + 1 = h.0 in
    ap (λ xs. r.month ∷ xs) (months_are s rs h.1 ∙ ap (λ m. range_with_len m (suc (length rs))) next)

-- ---- one loan

-- of two states of a loan that agree on the months before m only the months from m on have adjustments
pub changes_from : (n id m : ℕ) (l k : Held) (f c : ℕ) → AgreeTo m l k → boarded_month l ≤ m → f ≤ m → adjustments_of n id (map (due_of l) (range_with_len f c)) (map (due_of k) (range_with_len f c)) ≡ adjustments_of n id (map (due_of l) (range_with_len m (f + c - m))) (map (due_of k) (range_with_len m (f + c - m)))
changes_from n id m l k f c h from le =
    elim (nat_le (f + c) m) as (λ v. nat_le (f + c) m ≡ v → adjustments_of n id (map (due_of l) (range_with_len f c)) (map (due_of k) (range_with_len f c)) ≡ adjustments_of n id (map (due_of l) (range_with_len m (f + c - m))) (map (due_of k) (range_with_len m (f + c - m)))) [
      | true ↦ λ e. let early : f + c ≤ m = grind (arith, nat_tests) in short early
      | false ↦ λ e. let late : m < f + c = grind (arith, nat_tests) in long (m - f) (f + c - m) (omega arith) (omega arith)
    ] refl
  where
    before : (a : ℕ) → f + a ≤ m → adjustments_of n id (map (due_of l) (range_with_len f a)) (map (due_of k) (range_with_len f a)) ≡ []
    before a early = adjusts_none n id (due_of l) (due_of k) (range_with_len f a) (range_all (λ p. IsSameDue (due_of l p) (due_of k p)) f a (λ p low high. equal_due (due_of l p) (due_of k p) (same_due m l k p h from (omega arith))))

    short : f + c ≤ m → adjustments_of n id (map (due_of l) (range_with_len f c)) (map (due_of k) (range_with_len f c)) ≡ adjustments_of n id (map (due_of l) (range_with_len m (f + c - m))) (map (due_of k) (range_with_len m (f + c - m)))
    short early =
        let none : f + c - m ≡ 0 = omega arith in
        before c early ∙ sym (ap (λ x. adjustments_of n id (map (due_of l) (range_with_len m x)) (map (due_of k) (range_with_len m x))) none)

    long : (a b : ℕ) → f + a ≡ m → c ≡ a + b → adjustments_of n id (map (due_of l) (range_with_len f c)) (map (due_of k) (range_with_len f c)) ≡ adjustments_of n id (map (due_of l) (range_with_len m b)) (map (due_of k) (range_with_len m b))
    long a b to whole =
        ap (λ x. adjustments_of n id (map (due_of l) (range_with_len f x)) (map (due_of k) (range_with_len f x))) whole
        ∙ ap (λ xs. adjustments_of n id (map (due_of l) xs) (map (due_of k) xs)) (range_split f a b)
        ∙ adjusts_append n id (due_of l) (due_of k) (range_with_len f a) (range_with_len (f + a) b)
        ∙ ap (λ xs. xs ++ adjustments_of n id (map (due_of l) (range_with_len (f + a) b)) (map (due_of k) (range_with_len (f + a) b))) (before a (omega arith))
        ∙ ap (λ x. adjustments_of n id (map (due_of l) (range_with_len x b)) (map (due_of k) (range_with_len x b))) to

-- nothing is due of a loan for the months before it was taken on
pub due_before : (l : Held) (p : ℕ) → p < boarded_month l → IsSameDue (nothing_due p) (due_of l p)
due_before l p lt =
    let none : p + 1 - boarded_month l ≡ 0 = omega arith in
    let none' : p - 1 + 1 - boarded_month l ≡ 0 = omega arith in
    let first = carried_none l.account l.types in
    let later : carry_of l p ≡ carried_first l.account.terms = ap (carried_to l.account l.types) none ∙ first in
    let before : carry_of l (p - 1) ≡ carried_first l.account.terms = ap (carried_to l.account l.types) none' ∙ first in
    let same : due_of l p ≡ due_between p (carried_first l.account.terms) (carried_first l.account.terms) = ap (λ c. due_between p c (carry_of l p)) before ∙ ap (λ c. due_between p (carried_first l.account.terms) c) later in
    record { interest = sym (ap (λ (d : MonthDue). d.interest) same ∙ zero_less (pos 0)); principal = sym (ap (λ (d : MonthDue). d.principal) same ∙ zero_less l.account.terms.principal) }
  where
    zero_less : (z : ℤ) → z -ℤ z ≡ pos 0
    zero_less z = omega (arith, ints)

-- ---- all loans

changes_nil : (n : ℕ) (months : List ℕ) (before : List Held) → changes_of n months before [] ≡ []
unfolding changes_of
changes_nil n months before = refl

changes_cons : (n : ℕ) (months : List ℕ) (before : List Held) (l : Held) (ls : List Held) → changes_of n months before (l ∷ ls) ≡ adjustments_of n l.id (dues_for months (find_loan l.id before)) (map (due_of l) months) ++ changes_of n months before ls
unfolding changes_of
changes_cons n months before l ls = refl

-- a loan whose dues are what was found has none
own_none : (n : ℕ) (months : List ℕ) (o : Option Held) (l k : Held) → o ≡ Some k → All (λ p. IsSameDue (due_of k p) (due_of l p)) months → adjustments_of n l.id (dues_for months o) (map (due_of l) months) ≡ []
own_none n months o l k is same = ap (λ x. adjustments_of n l.id (dues_for months x) (map (due_of l) months)) is ∙ adjusts_none n l.id (due_of k) (due_of l) months same

same_self : (l : Held) (months : List ℕ) → All (λ p. IsSameDue (due_of l p) (due_of l p)) months
same_self l months = λ k d lt. record { interest = refl; principal = refl }

-- loans that are as they were have none
pub changes_kept : (n : ℕ) (months : List ℕ) (all ls : List Held) → All (IsFound all) ls → changes_of n months all ls ≡ []
changes_kept n months all [] h = changes_nil n months all
changes_kept n months all (l ∷ ls) h =
    changes_cons n months all l ls
    ∙ ap (λ xs. xs ++ changes_of n months all ls) (own_none n months (find_loan l.id all) l l (All-head (IsFound all) l ls h) (same_self l months))
    ∙ changes_kept n months all ls (All-tail (IsFound all) l ls h)

-- where one of them is changed, it alone has some
pub changes_changed : (n : ℕ) (months : List ℕ) (all ls : List Held) (id : ℕ) (f : Held → Held) (l : Held) → All (IsFound all) ls → find_loan id ls ≡ Some l → KeepsNumber f → changes_of n months all (changed id f ls) ≡ adjustments_of n l.id (map (due_of l) months) (map (due_of (f l)) months)
changes_changed n months all [] id f l h e keeps = absurd (cc)
changes_changed n months all (k ∷ ks) id f l h e keeps =
    elim (k.id == id) as (λ v. cond v (Some k) (find_loan id ks) ≡ Some l → changes_of n months all (if v then f k ∷ ks else k ∷ changed id f ks) ≡ adjustments_of n l.id (map (due_of l) months) (map (due_of (f l)) months)) [
      | true ↦ λ is.
          let kl : k ≡ l = cc in
          let found : find_loan (f k).id all ≡ Some k = ap (λ i. find_loan i all) (keeps k) ∙ All-head (IsFound all) k ks h in
          let number : (f k).id ≡ l.id = keeps k ∙ ap (λ (x : Held). x.id) kl in
          changes_cons n months all (f k) ks
          ∙ ap (λ xs. adjustments_of n (f k).id (dues_for months (find_loan (f k).id all)) (map (due_of (f k)) months) ++ xs) (changes_kept n months all ks (All-tail (IsFound all) k ks h))
          ∙ append-nil (adjustments_of n (f k).id (dues_for months (find_loan (f k).id all)) (map (due_of (f k)) months))
          ∙ ap (λ o. adjustments_of n (f k).id (dues_for months o) (map (due_of (f k)) months)) found
          ∙ ap (λ i. adjustments_of n i (map (due_of k) months) (map (due_of (f k)) months)) number
          ∙ ap (λ x. adjustments_of n l.id (map (due_of x) months) (map (due_of (f x)) months)) kl
      | false ↦ λ is.
          changes_cons n months all k (changed id f ks)
          ∙ ap (λ xs. xs ++ changes_of n months all (changed id f ks)) (own_none n months (find_loan k.id all) k k (All-head (IsFound all) k ks h) (same_self k months))
          ∙ changes_changed n months all ks id f l (All-tail (IsFound all) k ks h) is keeps
    ] e

-- a change of all loans that leaves the dues of closed months has none
pub changes_mapped : (n m : ℕ) (months : List ℕ) (all ls : List Held) (g : Held → Held) → All (IsFound all) ls → KeepsNumber g → All (λ l. AgreeTo m l (g l)) ls → All (λ (l : Held). boarded_month l ≤ m) ls → All (λ p. p < m) months → changes_of n months all (map g ls) ≡ []
changes_mapped n m months all [] g h keeps agree from early = changes_nil n months all
changes_mapped n m months all (l ∷ ls) g h keeps agree from early =
    let found : find_loan (g l).id all ≡ Some l = ap (λ i. find_loan i all) (keeps l) ∙ All-head (IsFound all) l ls h in
    let to = All-head (λ x. AgreeTo m x (g x)) l ls agree in
    let start : boarded_month l ≤ m = All-head (λ (x : Held). boarded_month x ≤ m) l ls from in
    let same : All (λ p. IsSameDue (due_of l p) (due_of (g l) p)) months = λ i d lt. equal_due (due_of l (get_or months i d)) (due_of (g l) (get_or months i d)) (same_due m l (g l) (get_or months i d) to start (early i d lt)) in
    changes_cons n months all (g l) (map g ls)
    ∙ ap (λ xs. xs ++ changes_of n months all (map g ls)) (own_none n months (find_loan (g l).id all) (g l) l found same)
    ∙ changes_mapped n m months all ls g (All-tail (IsFound all) l ls h) keeps (All-tail (λ x. AgreeTo m x (g x)) l ls agree) (All-tail (λ (x : Held). boarded_month x ≤ m) l ls from) early

-- nor has a new loan, which is boarded after the closed months
pub changes_boarded : (n : ℕ) (months : List ℕ) (all ls : List Held) (l : Held) → All (IsFound all) ls → find_loan l.id all ≡ None → All (λ p. p < boarded_month l) months → changes_of n months all (with_loan l ls) ≡ []
changes_boarded n months all ls l h none early = placed ls h
  where
    new : adjustments_of n l.id (dues_for months (find_loan l.id all)) (map (due_of l) months) ≡ []
    new = ap (λ o. adjustments_of n l.id (dues_for months o) (map (due_of l) months)) none ∙ adjusts_none n l.id nothing_due (due_of l) months (λ i d lt. due_before l (get_or months i d) (early i d lt))

    placed : (ks : List Held) → All (IsFound all) ks → changes_of n months all (with_loan l ks) ≡ []
    placed [] h = changes_cons n months all l [] ∙ ap (λ xs. xs ++ changes_of n months all []) new ∙ changes_nil n months all
    placed (k ∷ ks) h =
        elim (nat_lt l.id k.id) as (λ v. changes_of n months all (if v then l ∷ k ∷ ks else k ∷ with_loan l ks) ≡ []) [
          | true ↦ changes_cons n months all l (k ∷ ks) ∙ ap (λ xs. xs ++ changes_of n months all (k ∷ ks)) new ∙ changes_kept n months all (k ∷ ks) h
          | false ↦ changes_cons n months all k (with_loan l ks) ∙ ap (λ xs. xs ++ changes_of n months all (with_loan l ks)) (own_none n months (find_loan k.id all) k k (All-head (IsFound all) k ks h) (same_self k months)) ∙ placed ks (All-tail (IsFound all) k ks h)
        ]
