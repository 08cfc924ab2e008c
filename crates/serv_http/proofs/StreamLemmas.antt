-- The requests of a stream: one list at most, and the same for any cutting.
use Rattle.std.proofs.Common.{◌≡◌, ℕ, ◌⊎◌, inl, inr, true, false, List, [], ◌∷◌, ◌++◌, refl, sym, ap, ◌∙◌, subst, arith, length-append, Option, Some, None}
use Rattle.std.proofs.lemmas.Bool.{both_ways}
use Rattle.std.proofs.lemmas.List.{take-append-le, drop-append-le}
use Rattle.httparse.specs.Grammar.{RequestHead}
use Rattle.serv_http.specs.declared.ask.Ask.{Ask}
use Rattle.serv_http.specs.declared.ask.Ask.TheVariants.{Post}
use Rattle.serv_http.specs.declared.ask.Plan.{Plan}
use Rattle.serv_http.specs.declared.ask.Plan.TheVariants.{Now, Pass, Keep}
use Rattle.serv_http.specs.Heads.{HasHead}
use Rattle.serv_http.specs.Plans.{IsPlan}
use Rattle.serv_http.specs.Streams.{ends, Completes, Lacks, after_head, IsRequest, IsFirst, IsAwaited, AsksTo}
use Rattle.serv_http.proofs.HeadLemmas.{head-unique, head-not-refused, head-not-open, refused-not-open, head-grows, refused-grows, closed-grows, open-grows, after_head-grows}
use Rattle.serv_http.proofs.QueryLemmas.{plan-unique}

completes-grows : (plan : Plan) (t m : List ℕ) (a : Ask) (rest : List ℕ) → Completes plan t a rest → Completes plan (t ++ m) a (rest ++ m)
completes-grows (Now d) t m a rest x = (x.0, ap (λ (y : List ℕ). y ++ m) x.1)
completes-grows (Pass n d) t m a rest x =
    (omega (arith, length-append t m, x.0), x.1, ap (λ (y : List ℕ). y ++ m) x.2 ∙ sym (drop-append-le n t m x.0))
completes-grows (Keep n last) t m a rest x = (
  omega (arith, length-append t m, x.0),
  x.1 ∙ ap (λ (y : List ℕ). Post y last) (sym (take-append-le n t m x.0)),
  ap (λ (y : List ℕ). y ++ m) x.2 ∙ sym (drop-append-le n t m x.0),
)

completes-unique : (plan : Plan) (t : List ℕ) (a b : Ask) (r q : List ℕ) → Completes plan t a r → Completes plan t b q → (a ≡ b) × (r ≡ q)
completes-unique (Now d) t a b r q x y = (x.0 ∙ sym y.0, x.1 ∙ sym y.1)
completes-unique (Pass n d) t a b r q x y = (x.1 ∙ sym y.1, x.2 ∙ sym y.2)
completes-unique (Keep n last) t a b r q x y = (x.1 ∙ sym y.1, x.2 ∙ sym y.2)

completes-not-lacks : (plan : Plan) (t : List ℕ) (a : Ask) (r : List ℕ) → Completes plan t a r → Lacks plan t → ⊥
completes-not-lacks (Now d) t a r x y = y
completes-not-lacks (Pass n d) t a r x y = absurd (omega (arith, x.0, y))
completes-not-lacks (Keep n last) t a r x y = absurd (omega (arith, x.0, y))

request-grows : (s m : List ℕ) (a : Ask) (t : List ℕ) → IsRequest s a t → IsRequest (s ++ m) a (t ++ m)
request-grows s m a t x = record {
  head = x.head;
  here = head-grows s m x.head x.here;
  plan = x.plan;
  planned = x.planned;
  whole = subst (λ (y : List ℕ). Completes x.plan y a (t ++ m)) (sym (after_head-grows s m x.head x.here))
      (completes-grows x.plan (after_head s x.head) m a t x.whole);
}

pub first-grows : (s m : List ℕ) (a : Ask) (t : List ℕ) → IsFirst s a t → IsFirst (s ++ m) a (t ++ m)
first-grows s m a t (inl x) = inl (refused-grows s m x.0, x.1, ap (λ (y : List ℕ). y ++ m) x.2)
first-grows s m a t (inr (inl x)) =
    inr (inl ((closed-grows s m x.0.0, open-grows s m x.0.0 x.0.1), x.1, ap (λ (y : List ℕ). y ++ m) x.2))
first-grows s m a t (inr (inr x)) = inr (inr (request-grows s m a t x))

-- two heads of one stream, and their plans
same-plan : (s : List ℕ) (h k : RequestHead) (p q : Plan) → HasHead s h → HasHead s k → IsPlan h p → IsPlan k q → (h ≡ k) × (p ≡ q)
same-plan s h k p q x y a b =
    let e = head-unique s h k x y in
    (e, plan-unique k p q (subst (λ (z : RequestHead). IsPlan z p) e a) b)

request-unique : (s : List ℕ) (a b : Ask) (r q : List ℕ) → IsRequest s a r → IsRequest s b q → (a ≡ b) × (r ≡ q)
request-unique s a b r q x y =
    let e = same-plan s x.head y.head x.plan y.plan x.here y.here x.planned y.planned in
    let whole : Completes y.plan (after_head s y.head) a r =
    subst (λ (z : Plan). Completes z (after_head s y.head) a r) e.1
    (subst (λ (z : RequestHead). Completes x.plan (after_head s z) a r) e.0 x.whole) in
    completes-unique y.plan (after_head s y.head) a b r q whole y.whole

pub first-unique : (s : List ℕ) (a b : Ask) (r q : List ℕ) → IsFirst s a r → IsFirst s b q → (a ≡ b) × (r ≡ q)
first-unique s a b r q (inl x) (inl y) = (x.1 ∙ sym y.1, x.2 ∙ sym y.2)
first-unique s a b r q (inl x) (inr (inl y)) = absurd (refused-not-open s x.0 y.0.1)
first-unique s a b r q (inl x) (inr (inr y)) = absurd (head-not-refused s y.head y.here x.0)
first-unique s a b r q (inr (inl x)) (inl y) = absurd (refused-not-open s y.0 x.0.1)
first-unique s a b r q (inr (inl x)) (inr (inl y)) = (x.1 ∙ sym y.1, x.2 ∙ sym y.2)
first-unique s a b r q (inr (inl x)) (inr (inr y)) = absurd (head-not-open s y.head y.here x.0.1)
first-unique s a b r q (inr (inr x)) (inl y) = absurd (head-not-refused s x.head x.here y.0)
first-unique s a b r q (inr (inr x)) (inr (inl y)) = absurd (head-not-open s x.head x.here y.0.1)
first-unique s a b r q (inr (inr x)) (inr (inr y)) = request-unique s a b r q x y

pub first-not-awaited : (s : List ℕ) (a : Ask) (t : List ℕ) → IsFirst s a t → IsAwaited s → ⊥
first-not-awaited s a t (inl x) (inl y) = refused-not-open s x.0 y.1
first-not-awaited s a t (inl x) (inr y) = head-not-refused s y.head y.here x.0
first-not-awaited s a t (inr (inl x)) (inl y) = y.0 x.0.0
first-not-awaited s a t (inr (inl x)) (inr y) = head-not-open s y.head y.here x.0.1
first-not-awaited s a t (inr (inr x)) (inl y) = head-not-open s x.head x.here y.1
first-not-awaited s a t (inr (inr x)) (inr y) =
    let e = same-plan s x.head y.head x.plan y.plan x.here y.here x.planned y.planned in
    completes-not-lacks y.plan (after_head s y.head) a t
    (subst (λ (z : Plan). Completes z (after_head s y.head) a t) e.1
    (subst (λ (z : RequestHead). Completes x.plan (after_head s z) a t) e.0 x.whole)) y.lacks

-- the requests of the bytes are those of a first piece, and then those of what it leaves with the rest
pub asks-grow : (xs ys : List Ask) (s r m : List ℕ) (left : Option (List ℕ)) → AsksTo s xs (Some r) → AsksTo (r ++ m) ys left
    → AsksTo (s ++ m) (xs ++ ys) left
asks-grow [] ys s r m left x y =
    let e : r ≡ s = (let z = x.1 in cc) in subst (λ (t : List ℕ). AsksTo (t ++ m) ys left) e y
asks-grow (a ∷ xs) ys s r m left (t, first, inl x) y = absurd (let z = x.2 in cc)
asks-grow (a ∷ xs) ys s r m left (t, first, inr x) y =
    (t ++ m, first-grows s m a t first, inr (x.0, asks-grow xs ys t r m left x.1 y))

-- what follows an end changes nothing
pub asks-over : (xs : List Ask) (s m : List ℕ) → AsksTo s xs None → AsksTo (s ++ m) xs None
asks-over [] s m x = absurd (let z = x.1 in cc)
asks-over (a ∷ xs) s m (t, first, inl x) = (t ++ m, first-grows s m a t first, inl x)
asks-over (a ∷ xs) s m (t, first, inr x) = (t ++ m, first-grows s m a t first, inr (x.0, asks-over xs t m x.1))

-- what comes after a request
abbrev IsAfter : Ask → List Ask → List ℕ → Option (List ℕ) → Type 0
IsAfter a xs t l = ((ends a ≡ true) × (xs ≡ []) × (l ≡ None)) ⊎ ((ends a ≡ false) × AsksTo t xs l)

after-unique : (a b : Ask) (xs ys : List Ask) (t u : List ℕ) (l k : Option (List ℕ)) → IsAfter a xs t l → IsAfter b ys u k
    → (a ≡ b) × (t ≡ u) → (AsksTo u xs l → AsksTo u ys k → (xs ≡ ys) × (l ≡ k)) → (a ∷ xs ≡ b ∷ ys) × (l ≡ k)
after-unique a b xs ys t u l k (inl x) (inl y) e one = (let p = e.0 in let q = x.1 in let r = y.1 in cc, x.2 ∙ sym y.2)
after-unique a b xs ys t u l k (inl x) (inr y) e one = absurd (both_ways (ends b) y.0 (sym (ap ends e.0) ∙ x.0))
after-unique a b xs ys t u l k (inr x) (inl y) e one = absurd (both_ways (ends b) (sym (ap ends e.0) ∙ x.0) y.0)
after-unique a b xs ys t u l k (inr x) (inr y) e one =
    let same = one (subst (λ (z : List ℕ). AsksTo z xs l) e.1 x.1) y.1 in
    (let p = e.0 in let q = same.0 in cc, same.1)

-- the bytes have one list of requests
pub asks-unique : (xs ys : List Ask) (s : List ℕ) (l k : Option (List ℕ)) → AsksTo s xs l → AsksTo s ys k → (xs ≡ ys) × (l ≡ k)
asks-unique [] [] s l k x y = (refl, x.1 ∙ sym y.1)
asks-unique [] (b ∷ ys) s l k x y = absurd (first-not-awaited s b y.0 y.1 x.0)
asks-unique (a ∷ xs) [] s l k x y = absurd (first-not-awaited s a x.0 x.1 y.0)
asks-unique (a ∷ xs) (b ∷ ys) s l k (t, first, x) (u, other, y) =
    after-unique a b xs ys t u l k x y (first-unique s a b t u first other) (asks-unique xs ys u l k)

after-first : (a b : Ask) (xs ys : List Ask) (t m u : List ℕ) (l k : Option (List ℕ)) → IsAfter a xs t l → IsAfter b ys u k
    → (a ≡ b) × (t ++ m ≡ u) → (AsksTo t xs l → AsksTo (t ++ m) ys k → (zs : List Ask) × (ys ≡ xs ++ zs))
    → (zs : List Ask) × (b ∷ ys ≡ (a ∷ xs) ++ zs)
after-first a b xs ys t m u l k (inl x) y e one =
    (ys, ap (λ (z : Ask). z ∷ ys) (sym e.0) ∙ ap (λ (z : List Ask). (a ∷ z) ++ ys) (sym x.1))
after-first a b xs ys t m u l k (inr x) (inl y) e one = absurd (both_ways (ends b) (sym (ap ends e.0) ∙ x.0) y.0)
after-first a b xs ys t m u l k (inr x) (inr y) e one =
    let rest = one x.1 (subst (λ (z : List ℕ). AsksTo z ys k) (sym e.1) y.1) in
    (rest.0, ap (λ (z : Ask). z ∷ ys) (sym e.0) ∙ ap (λ (z : List Ask). a ∷ z) rest.1)

-- what the first bytes ask comes first in any longer stream
pub asks-first : (xs ys : List Ask) (s m : List ℕ) (l k : Option (List ℕ)) → AsksTo s xs l → AsksTo (s ++ m) ys k
    → (zs : List Ask) × (ys ≡ xs ++ zs)
asks-first [] ys s m l k x y = (ys, refl)
asks-first (a ∷ xs) [] s m l k x y = absurd (first-not-awaited (s ++ m) a (x.0 ++ m) (first-grows s m a x.0 x.1) y.0)
asks-first (a ∷ xs) (b ∷ ys) s m l k (t, first, x) (u, other, y) =
    after-first a b xs ys t m u l k x y (first-unique (s ++ m) a b (t ++ m) u (first-grows s m a t first) other)
    (asks-first xs ys t m l k)
