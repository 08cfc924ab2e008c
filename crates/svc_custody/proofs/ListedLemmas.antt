-- Positions that are listed by their places.
use Rattle.std.proofs.Common.{◌≡◌, ◌≢◌, ℕ, zero, suc, ◌+◌, ◌≤◌, ◌<◌, List, [], ◌∷◌, ◌++◌, length, get_or, arith, refl, sym, ap, subst, ◌∙◌}
use Rattle.std.proofs.Math.ListN.{set}
use Rattle.std.proofs.Math.ListN.{get_or-append}
use Rattle.std.proofs.Math.Seq.{get_or-append_seam}
use Rattle.std.specs.List.{All, AllPairs, insert}
use Rattle.std.proofs.lemmas.List.{get_or-set_same, get_or-set_other}
use Rattle.std.proofs.lemmas.List.Elements.{All-cons, All-head, All-tail}
use Rattle.std.proofs.lemmas.List.Kept.{AllPairs-cons}
use Rattle.svc_types.proofs.OrderLemmas.{pairs_head, pairs_tail}
use Rattle.svc_custody.specs.declared.position.Position.{Position}
use Rattle.svc_custody.specs.Positions.{ArePlaces, listed, no_position}

-- one is replaced
others_stay : (xs : List Position) (p : ℕ) (y : Position) (ps : List ℕ) → All (λ (j : ℕ). p ≢ j) ps → listed (set xs p y) ps ≡ listed xs ps
others_stay xs p y [] h = refl
others_stay xs p y (j ∷ js) h =
    let apart : p ≢ j = All-head (λ (j : ℕ). p ≢ j) j js h in
    ap (λ x. x ∷ listed (set xs p y) js) (get_or-set_other xs p j y no_position (λ e. apart (sym e)))
    ∙ ap (λ zs. get_or xs j no_position ∷ zs) (others_stay xs p y js (All-tail (λ (j : ℕ). p ≢ j) j js h))

pub set_listed : (xs : List Position) (ps : List ℕ) (i p e : ℕ) (y : Position) → i < length ps → p ≡ get_or ps i e → All (λ (j : ℕ). j < length xs) ps → AllPairs (λ (i j : ℕ). i ≢ j) ps → listed (set xs p y) ps ≡ set (listed xs ps) i y
set_listed xs [] i p e y lt is within apart = absurd (omega arith)
set_listed xs (j ∷ js) zero p e y lt is within apart =
    let lower : p < length xs = (let h = All-head (λ (j : ℕ). j < length xs) j js within in omega (arith, h, is)) in
    let others : All (λ (k : ℕ). p ≢ k) js = λ k d low. (λ same. pairs_head (λ (i j : ℕ). i ≢ j) j js apart k d low (sym is ∙ same)) in
    ap (λ x. x ∷ listed (set xs p y) js) (ap (λ q. get_or (set xs p y) q no_position) (sym is) ∙ get_or-set_same xs p y no_position lower)
    ∙ ap (λ zs. y ∷ zs) (others_stay xs p y js others)
set_listed xs (j ∷ js) (suc i) p e y lt is within apart =
    let other : j ≢ p = λ same. pairs_head (λ (i j : ℕ). i ≢ j) j js apart i e (omega arith) (same ∙ is) in
    ap (λ x. x ∷ listed (set xs p y) js) (get_or-set_other xs p j y no_position other)
    ∙ ap (λ zs. get_or xs j no_position ∷ zs) (set_listed xs js i p e y (omega arith) is (All-tail (λ (j : ℕ). j < length xs) j js within) (pairs_tail (λ (i j : ℕ). i ≢ j) j js apart))

-- one more, behind the others
longer : (xs : List Position) (y : Position) (ps : List ℕ) → All (λ (j : ℕ). j < length xs) ps → listed (xs ++ y ∷ []) ps ≡ listed xs ps
longer xs y [] h = refl
longer xs y (j ∷ js) h =
    ap (λ x. x ∷ listed (xs ++ y ∷ []) js) (get_or-append xs (y ∷ []) no_position j (All-head (λ (j : ℕ). j < length xs) j js h))
    ∙ ap (λ zs. get_or xs j no_position ∷ zs) (longer xs y js (All-tail (λ (j : ℕ). j < length xs) j js h))

pub insert_listed : (xs : List Position) (ps : List ℕ) (i : ℕ) (y : Position) → i ≤ length ps → All (λ (j : ℕ). j < length xs) ps → listed (xs ++ y ∷ []) (insert ps i (length xs)) ≡ insert (listed xs ps) i y
insert_listed xs [] zero y le h = ap (λ x. x ∷ []) (get_or-append_seam xs y [] no_position)
insert_listed xs [] (suc i) y le h = absurd (omega arith)
insert_listed xs (j ∷ js) zero y le h =
    ap (λ x. x ∷ listed (xs ++ y ∷ []) (j ∷ js)) (get_or-append_seam xs y [] no_position)
    ∙ ap (λ zs. y ∷ zs) (longer xs y (j ∷ js) h)
insert_listed xs (j ∷ js) (suc i) y le h =
    ap (λ x. x ∷ listed (xs ++ y ∷ []) (insert js i (length xs))) (get_or-append xs (y ∷ []) no_position j (All-head (λ (j : ℕ). j < length xs) j js h))
    ∙ ap (λ zs. get_or xs j no_position ∷ zs) (insert_listed xs js i y (omega arith) (All-tail (λ (j : ℕ). j < length xs) j js h))

more_within : (n i : ℕ) (ps : List ℕ) → i ≤ length ps → All (λ (j : ℕ). j < n) ps → All (λ (j : ℕ). j < n + 1) (insert ps i n)
more_within n zero ps le h = All-cons (λ (j : ℕ). j < n + 1) n ps (omega arith) (λ k d lt. (let one = h k d lt in omega (arith, one)))
more_within n (suc i) [] le h = absurd (omega arith)
more_within n (suc i) (j ∷ js) le h =
    let one = All-head (λ (j : ℕ). j < n) j js h in
    All-cons (λ (j : ℕ). j < n + 1) j (insert js i n) (omega (arith, one)) (more_within n i js (omega arith) (All-tail (λ (j : ℕ). j < n) j js h))

apart_with : (p n i : ℕ) (ps : List ℕ) → i ≤ length ps → p ≢ n → All (λ (j : ℕ). p ≢ j) ps → All (λ (j : ℕ). p ≢ j) (insert ps i n)
apart_with p n zero ps le new h = All-cons (λ (j : ℕ). p ≢ j) n ps new h
apart_with p n (suc i) [] le new h = absurd (omega arith)
apart_with p n (suc i) (j ∷ js) le new h = All-cons (λ (j : ℕ). p ≢ j) j (insert js i n) (All-head (λ (j : ℕ). p ≢ j) j js h) (apart_with p n i js (omega arith) new (All-tail (λ (j : ℕ). p ≢ j) j js h))

more_apart : (n i : ℕ) (ps : List ℕ) → i ≤ length ps → All (λ (j : ℕ). j < n) ps → AllPairs (λ (i j : ℕ). i ≢ j) ps → AllPairs (λ (i j : ℕ). i ≢ j) (insert ps i n)
more_apart n zero ps le h apart = AllPairs-cons (λ (i j : ℕ). i ≢ j) n ps (λ k d lt. (λ same. (let one = h k d lt in absurd (omega (arith, one, same))))) apart
more_apart n (suc i) [] le h apart = absurd (omega arith)
more_apart n (suc i) (j ∷ js) le h apart =
    let one = All-head (λ (j : ℕ). j < n) j js h in
    AllPairs-cons (λ (i j : ℕ). i ≢ j) j (insert js i n) (apart_with j n i js (omega arith) (λ same. absurd (omega (arith, one, same))) (λ k d lt. pairs_head (λ (i j : ℕ). i ≢ j) j js apart k d lt)) (more_apart n i js (omega arith) (All-tail (λ (j : ℕ). j < n) j js h) (pairs_tail (λ (i j : ℕ). i ≢ j) j js apart))

inserted_length : (n i : ℕ) (ps : List ℕ) → i ≤ length ps → length (insert ps i n) ≡ length ps + 1
inserted_length n zero ps le = omega arith
inserted_length n (suc i) [] le = absurd (omega arith)
inserted_length n (suc i) (j ∷ js) le = let rest = inserted_length n i js (omega arith) in omega (arith, rest)

longer_by_one : (xs : List Position) (y : Position) → length (xs ++ y ∷ []) ≡ length xs + 1
longer_by_one [] y = refl
longer_by_one (x ∷ xs) y = let rest = longer_by_one xs y in omega (arith, rest)

pub places_with : (xs : List Position) (ps : List ℕ) (i : ℕ) (y : Position) → i ≤ length ps → ArePlaces xs ps → ArePlaces (xs ++ y ∷ []) (insert ps i (length xs))
places_with xs ps i y le h =
    let n = length xs in
    let more = longer_by_one xs y in
    record {
      count = (let c = h.count in let l = inserted_length n i ps le in omega (arith, c, l, more));
      within = subst (λ m. All (λ (j : ℕ). j < m) (insert ps i n)) (sym more) (more_within n i ps le h.within);
      apart = more_apart n i ps le h.within h.apart;
    }
