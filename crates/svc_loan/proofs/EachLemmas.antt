-- Loans that are changed one after another.
use Rattle.std.proofs.Common.{◌≡◌, Box, Global, ℕ, ◌+◌, ◌≤◌, ◌<◌, List, [], ◌∷◌, ◌++◌, map, take, drop, length, get_or, zero, suc, arith, refl, sym, ap, subst, ◌∙◌}
use Rattle.std.specs.Prelude.{sum_by}
use Rattle.std.proofs.Math.ListN.{set}
use Rattle.std.proofs.Math.ListN.{get_or-map as get_mapped}
use Rattle.std.specs.List.{All}
use Rattle.std.proofs.Math.Seq.{map-set_same}
use Rattle.std.proofs.lemmas.List.{take_all, take_more, take_more_set, drop-set-lt, length-set, length-map, map-set}
use Rattle.std.proofs.lemmas.List.Elements.{All-push}
use Rattle.std.proofs.lemmas.List.Sums.{sum_by-append}
use Rattle.svc_world.specs.Held.{Held}
use Rattle.svc_loan.specs.Kept.{KeptLoan}
use Rattle.svc_loan.specs.Loans.{Rise, held_in, closed_in, remitted_in}
use Rattle.svc_loan.proofs.KeptLemmas.{numbers_rise, behind}

-- the first i of some loans are changed, and the others are as they were
pub record Done {X : Type 0} (v : X → KeptLoan) (fh : KeptLoan → Held) (fc : KeptLoan → ℕ) (olds news : List X) (i : ℕ) : Type 0 where
  pub held : held_in (map v (take i news)) ≡ map fh (map v (take i olds))
  pub closed : closed_in (map v (take i news)) ≡ map fc (map v (take i olds))
  pub remitted : remitted_in (map v (take i news)) ≡ remitted_in (map v (take i olds))
  pub rest : drop i news ≡ drop i olds
  pub count : length news ≡ length olds

-- the loan at the next place is still the old one
pub next_old : {X : Type 0} (xs ys : List X) (i : ℕ) (d : X) → drop i ys ≡ drop i xs → get_or ys i d ≡ get_or xs i d
next_old {X = X} xs ys i d same = sym (dropped ys i d) ∙ ap (λ zs. get_or zs 0 d) same ∙ dropped xs i d
  where
    dropped : (zs : List X) (i : ℕ) (d : X) → get_or (drop i zs) 0 d ≡ get_or zs i d
    dropped [] zero d = refl
    dropped [] (suc i) d = refl
    dropped (z ∷ zs) zero d = refl
    dropped (z ∷ zs) (suc i) d = dropped zs i d

mapped_more : {X Y : Type 0} (f : X → Y) (xs : List X) (x : X) → map f (xs ++ x ∷ []) ≡ map f xs ++ f x ∷ []
mapped_more f [] x = refl
mapped_more f (y ∷ ys) x = ap (λ zs. f y ∷ zs) (mapped_more f ys x)

step : {X Y : Type 0} (v : X → KeptLoan) (g h : KeptLoan → Y) (olds news : List X) (i : ℕ) (d y : X) → i < length olds → length news ≡ length olds → map g (map v (take i news)) ≡ map h (map v (take i olds)) → g (v y) ≡ h (v (get_or olds i d)) → map g (map v (take (i + 1) (set news i y))) ≡ map h (map v (take (i + 1) olds))
step v g h olds news i d y lt count before here =
    ap (λ xs. map g (map v xs)) (take_more_set news i y (omega arith))
    ∙ ap (map g) (mapped_more v (take i news) y)
    ∙ mapped_more g (map v (take i news)) (v y)
    ∙ ap (λ zs. zs ++ g (v y) ∷ []) before
    ∙ ap (λ z. map h (map v (take i olds)) ++ z ∷ []) here
    ∙ sym (mapped_more h (map v (take i olds)) (v (get_or olds i d)))
    ∙ ap (map h) (sym (mapped_more v (take i olds) (get_or olds i d)))
    ∙ ap (λ xs. map h (map v xs)) (sym (take_more olds i d lt))

-- behind the next place all are still the old ones
pub rest_more : {X : Type 0} (olds news : List X) (i : ℕ) (y : X) → drop i news ≡ drop i olds → drop (i + 1) (set news i y) ≡ drop (i + 1) olds
rest_more {X = X} olds news i y same = drop-set-lt (i + 1) news i y (omega arith) ∙ sym (one news i) ∙ ap (drop 1) same ∙ one olds i
  where
    one : (zs : List X) (i : ℕ) → drop 1 (drop i zs) ≡ drop (i + 1) zs
    one [] zero = refl
    one [] (suc i) = let e : suc i + 1 ≡ suc (i + 1) = omega arith in sym (ap (λ n. drop {A = X} n []) e)
    one (z ∷ zs) zero = refl
    one (z ∷ zs) (suc i) = let e : suc i + 1 ≡ suc (i + 1) = omega arith in one zs i ∙ sym (ap (λ n. drop n (z ∷ zs)) e)

pub one_done : {X : Type 0} (v : X → KeptLoan) (fh : KeptLoan → Held) (fc : KeptLoan → ℕ) (olds news : List X) (i : ℕ) (d y : X) → i < length olds → Done v fh fc olds news i → (v y).held ≡ fh (v (get_or news i d)) → (v y).closed ≡ fc (v (get_or news i d)) → (v y).remitted ≡ (v (get_or news i d)).remitted → Done v fh fc olds (set news i y) (i + 1)
one_done {X = X} v fh fc olds news i d y lt h held closed remitted =
    let same = ap v (next_old olds news i d h.rest) in
    record {
      held = step v (λ (k : KeptLoan). k.held) fh olds news i d y lt h.count h.held (held ∙ ap fh same);
      closed = step v (λ (k : KeptLoan). k.closed) fc olds news i d y lt h.count h.closed (closed ∙ ap fc same);
      remitted = step v (λ (k : KeptLoan). k.remitted) (λ (k : KeptLoan). k.remitted) olds news i d y lt h.count h.remitted (remitted ∙ ap (λ (k : KeptLoan). k.remitted) same);
      rest = rest_more olds news i y h.rest;
      count = length-set news i y ∙ h.count;
    }

-- where all are changed
pub record AllDone (fh : KeptLoan → Held) (fc : KeptLoan → ℕ) (ks js : List KeptLoan) : Type 0 where
  pub held : held_in js ≡ map fh ks
  pub closed : closed_in js ≡ map fc ks
  pub remitted : remitted_in js ≡ remitted_in ks

pub all_done : {X : Type 0} (v : X → KeptLoan) (fh : KeptLoan → Held) (fc : KeptLoan → ℕ) (olds news : List X) (i : ℕ) → length olds ≤ i → Done v fh fc olds news i → AllDone fh fc (map v olds) (map v news)
all_done v fh fc olds news i le h =
    let count = h.count in
    let new = take_all i news (omega arith) in
    let old = take_all i olds le in
    record {
      held = ap (λ xs. held_in (map v xs)) (sym new) ∙ h.held ∙ ap (λ xs. map fh (map v xs)) old;
      closed = ap (λ xs. closed_in (map v xs)) (sym new) ∙ h.closed ∙ ap (λ xs. map fc (map v xs)) old;
      remitted = ap (λ xs. remitted_in (map v xs)) (sym new) ∙ h.remitted ∙ ap (λ xs. remitted_in (map v xs)) old;
    }

-- loans whose numbers stay rise as before
pub done_rises : (fh : KeptLoan → Held) (fc : KeptLoan → ℕ) (ks js : List KeptLoan) → AllDone fh fc ks js → ((k : KeptLoan) → (fh k).id ≡ k.held.id) → Rise ks → Rise js
done_rises fh fc ks js h keeps rise = numbers_rise js ks (twice js ∙ ap (map (λ (l : Held). l.id)) h.held ∙ over ks) rise
  where
    twice : (xs : List KeptLoan) → map (λ (k : KeptLoan). k.held.id) xs ≡ map (λ (l : Held). l.id) (held_in xs)
    twice [] = refl
    twice (x ∷ xs) = ap (λ ns. x.held.id ∷ ns) (twice xs)

    over : (xs : List KeptLoan) → map (λ (l : Held). l.id) (map fh xs) ≡ map (λ (k : KeptLoan). k.held.id) xs
    over [] = refl
    over (x ∷ xs) = ap (λ n. n ∷ map (λ (l : Held). l.id) (map fh xs)) (keeps x) ∙ ap (λ ns. x.held.id ∷ ns) (over xs)

pub held_mapped : (f : Held → Held) (ks : List KeptLoan) → map (λ (k : KeptLoan). f k.held) ks ≡ map f (held_in ks)
held_mapped f [] = refl
held_mapped f (k ∷ ks) = ap (λ ls. f k.held ∷ ls) (held_mapped f ks)

-- a sum over the first of some loans, with one more
pub sum_more : {X : Type 0} (v : X → KeptLoan) (cost : KeptLoan → ℕ) (olds : List X) (i : ℕ) (d : X) → i < length olds → sum_by cost (map v (take (i + 1) olds)) ≡ sum_by cost (map v (take i olds)) + cost (v (get_or olds i d))
sum_more v cost olds i d lt =
    ap (λ xs. sum_by cost (map v xs)) (take_more olds i d lt)
    ∙ ap (sum_by cost) (mapped_more v (take i olds) (get_or olds i d))
    ∙ sum_by-append cost (map v (take i olds)) (v (get_or olds i d) ∷ [])
    ∙ ap (λ n. sum_by cost (map v (take i olds)) + n) (one (v (get_or olds i d)))
  where
    one : (k : KeptLoan) → sum_by cost (k ∷ []) ≡ cost k
    one k = omega arith

-- what is asked of each of the old loans is asked of the one that is lent from the next place
pub asked_lent : (P : KeptLoan → Type 0) (ks : List KeptLoan) (olds news : List (Box KeptLoan Global)) (i : ℕ) (b : Box KeptLoan Global) (k : KeptLoan) → behind olds ≡ ks → All P ks → i < length olds → drop i news ≡ drop i olds → b ≡ get_or news i b → k ≡ b.value → P k
asked_lent P ks olds news i b k same all lt rest pointer loan =
    let v : Box KeptLoan Global → KeptLoan = λ x. x.value in
    let at = get_mapped v olds i b in
    let old = ap v (next_old olds news i b rest) in
    let within : i < length (behind olds) = omega (arith, length-map olds v) in
    subst P (at ∙ sym old ∙ sym (ap v pointer) ∙ sym loan) (subst (All P) (sym same) all i b.value within)

-- loans of which one is replaced by one of which the books, the closed months and what was remitted are the same
pub replaced_same : {X : Type 0} (v : X → KeptLoan) (olds news : List X) (i : ℕ) (d y : X) → AllDone (λ (k : KeptLoan). k.held) (λ (k : KeptLoan). k.closed) (map v olds) (map v news) → (v y).held ≡ (v (get_or news i d)).held → (v y).closed ≡ (v (get_or news i d)).closed → (v y).remitted ≡ (v (get_or news i d)).remitted → AllDone (λ (k : KeptLoan). k.held) (λ (k : KeptLoan). k.closed) (map v olds) (map v (set news i y))
replaced_same v olds news i d y h held closed remitted = record {
  held = ap held_in (map-set v news i y) ∙ map-set_same (λ (k : KeptLoan). k.held) (map v news) i (v y) (v d) (held ∙ ap (λ (k : KeptLoan). k.held) (sym (get_mapped v news i d))) ∙ h.held;
  closed = ap closed_in (map-set v news i y) ∙ map-set_same (λ (k : KeptLoan). k.closed) (map v news) i (v y) (v d) (closed ∙ ap (λ (k : KeptLoan). k.closed) (sym (get_mapped v news i d))) ∙ h.closed;
  remitted = ap remitted_in (map-set v news i y) ∙ map-set_same (λ (k : KeptLoan). k.remitted) (map v news) i (v y) (v d) (remitted ∙ ap (λ (k : KeptLoan). k.remitted) (sym (get_mapped v news i d))) ∙ h.remitted;
}

-- what holds of the first i loans and of the one that is put at the next place
pub holds_more : {X : Type 0} (v : X → KeptLoan) (P : KeptLoan → Type 0) (news : List X) (i : ℕ) (y : X) → i < length news → All P (map v (take i news)) → P (v y) → All P (map v (take (i + 1) (set news i y)))
holds_more v P news i y lt all here =
    let is = ap (map v) (take_more_set news i y lt) ∙ mapped_more v (take i news) y in
    subst (All P) (sym is) (All-push P (map v (take i news)) (v y) all here)

pub holds_all : {X : Type 0} (v : X → KeptLoan) (P : KeptLoan → Type 0) (news : List X) (i : ℕ) → length news ≤ i → All P (map v (take i news)) → All P (map v news)
holds_all v P news i le all = subst (λ xs. All P (map v xs)) (take_all i news le) all
