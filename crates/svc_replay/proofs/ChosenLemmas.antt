-- Entries chosen by their places: one more, one less, and where a test splits them.
use Rattle.std.proofs.Common.{◌≡◌, ℕ, zero, suc, ◌+◌, ◌≤◌, ◌<◌, Bool, true, false, List, [], ◌∷◌, ◌++◌, length, length-append, get_or, take, drop, arith, refl, sym, ap, subst, ◌∙◌}
use Rattle.std.specs.Prelude.{slice_get, Option, Some, None}
use Rattle.std.specs.List.{insert, remove}
use Rattle.std.specs.List.Sorted.{IsPartitionedBy, IsPartitionPoint}
use Rattle.std.proofs.lemmas.List.{get_or_default}
use Rattle.std.proofs.lemmas.List.Elements.{All-head, All-tail, All-take, All-drop, All-cons, All-append}
use Rattle.std.proofs.lemmas.Option.{slice_get-get_or, same_Some}
use Rattle.svc_types.specs.declared.account.Entry.{Entry}
use Rattle.svc_replay.specs.Chosen.{chosen, with_first, passes, AreWithin}

-- ---- an entry more among those that are chosen from

get_more : (es : List Entry) (e : Entry) (k : ℕ) → k < length es → slice_get (es ++ e ∷ []) k ≡ slice_get es k
get_more [] e k lt = absurd (omega arith)
get_more (x ∷ es) e zero lt = refl
get_more (x ∷ es) e (suc k) lt = get_more es e k (omega arith)

pub get_last : (es : List Entry) (e : Entry) → slice_get (es ++ e ∷ []) (length es) ≡ Some e
get_last [] e = refl
get_last (x ∷ es) e = get_last es e

within_head : (es : List Entry) (k : ℕ) (ks : List ℕ) → AreWithin es (k ∷ ks) → k < length es
within_head es k ks h = All-head (λ n. n < length es) k ks h

within_tail : (es : List Entry) (k : ℕ) (ks : List ℕ) → AreWithin es (k ∷ ks) → AreWithin es ks
within_tail es k ks h = All-tail (λ n. n < length es) k ks h

pub chosen_more : (es : List Entry) (e : Entry) (ks : List ℕ) → AreWithin es ks → chosen (es ++ e ∷ []) ks ≡ chosen es ks
unfolding chosen
chosen_more es e [] h = refl
chosen_more es e (k ∷ ks) h =
    ap (λ o. with_first o (chosen (es ++ e ∷ []) ks)) (get_more es e k (within_head es k ks h))
    ∙ ap (with_first (slice_get es k)) (chosen_more es e ks (within_tail es k ks h))

-- ---- places added and taken away

chosen_append : (es : List Entry) (xs ys : List ℕ) → chosen es (xs ++ ys) ≡ chosen es xs ++ chosen es ys
unfolding chosen
chosen_append es [] ys = refl
chosen_append es (k ∷ xs) ys =
    ap (with_first (slice_get es k)) (chosen_append es xs ys) ∙ sym (first_apart (slice_get es k) (chosen es xs) (chosen es ys))
  where
    first_apart : (o : Option Entry) (xs ys : List Entry) → with_first o xs ++ ys ≡ with_first o (xs ++ ys)
    first_apart None xs ys = refl
    first_apart (Some e) xs ys = refl

first_there : (es : List Entry) (k : ℕ) (xs : List Entry) (d : Entry) → k < length es → with_first (slice_get es k) xs ≡ get_or es k d ∷ xs
first_there es k xs d lt = ap (λ o. with_first o xs) (slice_get-get_or es k d lt)

some_entry : (es : List Entry) (k : ℕ) → k < length es → Entry
some_entry [] k lt = absurd (omega arith)
some_entry (e ∷ es) k lt = e

pub chosen_length : (es : List Entry) (ks : List ℕ) → AreWithin es ks → length (chosen es ks) ≡ length ks
unfolding chosen
chosen_length es [] h = refl
chosen_length es (k ∷ ks) h =
    let lt = within_head es k ks h in
    ap length (first_there es k (chosen es ks) (some_entry es k lt) lt) ∙ ap suc (chosen_length es ks (within_tail es k ks h))

chosen_take : (es : List Entry) (ks : List ℕ) (i : ℕ) → AreWithin es ks → chosen es (take i ks) ≡ take i (chosen es ks)
unfolding chosen
chosen_take es [] zero h = refl
chosen_take es [] (suc i) h = refl
chosen_take es (k ∷ ks) zero h = refl
chosen_take es (k ∷ ks) (suc i) h =
    let lt = within_head es k ks h in
    let d = some_entry es k lt in
    first_there es k (chosen es (take i ks)) d lt
    ∙ ap (λ xs. get_or es k d ∷ xs) (chosen_take es ks i (within_tail es k ks h))
    ∙ sym (ap (take (suc i)) (first_there es k (chosen es ks) d lt))

chosen_drop : (es : List Entry) (ks : List ℕ) (i : ℕ) → AreWithin es ks → chosen es (drop i ks) ≡ drop i (chosen es ks)
unfolding chosen
chosen_drop es [] zero h = refl
chosen_drop es [] (suc i) h = refl
chosen_drop es (k ∷ ks) zero h = refl
chosen_drop es (k ∷ ks) (suc i) h =
    let lt = within_head es k ks h in
    chosen_drop es ks i (within_tail es k ks h) ∙ sym (ap (drop (suc i)) (first_there es k (chosen es ks) (some_entry es k lt) lt))

-- a place is put in where its entry is to stand
pub chosen_insert : (es : List Entry) (ks : List ℕ) (i k : ℕ) (e : Entry) → AreWithin es ks → slice_get es k ≡ Some e → chosen es (insert ks i k) ≡ insert (chosen es ks) i e
unfolding chosen
chosen_insert es ks i k e h is =
    chosen_append es (take i ks) (k ∷ drop i ks)
    ∙ ap (λ xs. xs ++ with_first (slice_get es k) (chosen es (drop i ks))) (chosen_take es ks i h)
    ∙ ap (λ o. take i (chosen es ks) ++ with_first o (chosen es (drop i ks))) is
    ∙ ap (λ xs. take i (chosen es ks) ++ e ∷ xs) (chosen_drop es ks i h)

pub chosen_remove : (es : List Entry) (ks : List ℕ) (i : ℕ) → AreWithin es ks → chosen es (remove ks i) ≡ remove (chosen es ks) i
chosen_remove es ks i h =
    chosen_append es (take i ks) (drop (suc i) ks)
    ∙ ap (λ xs. xs ++ chosen es (drop (suc i) ks)) (chosen_take es ks i h)
    ∙ ap (λ xs. take i (chosen es ks) ++ xs) (chosen_drop es ks (suc i) h)

-- ---- an entry by its place among the chosen ones

pub chosen_at : (es : List Entry) (ks : List ℕ) (i d : ℕ) (e : Entry) → AreWithin es ks → i < length ks → slice_get es (get_or ks i d) ≡ Some (get_or (chosen es ks) i e)
unfolding chosen
chosen_at es [] i d e h lt = absurd (omega arith)
chosen_at es (k ∷ ks) zero d e h lt =
    let here = within_head es k ks h in
    slice_get-get_or es k e here ∙ sym (ap (λ xs. Some (get_or xs 0 e)) (first_there es k (chosen es ks) e here))
chosen_at es (k ∷ ks) (suc i) d e h lt =
    let here = within_head es k ks h in
    chosen_at es ks i d e (within_tail es k ks h) (omega arith)
    ∙ sym (ap (λ xs. Some (get_or xs (suc i) e)) (first_there es k (chosen es ks) e here))

passes_at : (p : Entry → Bool) (es : List Entry) (ks : List ℕ) (i d : ℕ) (e : Entry) → AreWithin es ks → i < length ks → passes p es (get_or ks i d) ≡ p (get_or (chosen es ks) i e)
passes_at p es ks i d e h lt = rw (chosen_at es ks i d e h lt) refl

-- ---- where a test splits them

pub places_parted : (p : Entry → Bool) (es : List Entry) (ks : List ℕ) → AreWithin es ks → IsPartitionedBy p (chosen es ks) → IsPartitionedBy (passes p es) ks
places_parted p es ks h parted i j d le lt later =
    let e = some_entry es (get_or ks j d) (h j d lt) in
    let count = chosen_length es ks h in
    passes_at p es ks i d e h (omega arith) ∙ parted i j e le (omega arith) (sym (passes_at p es ks j d e h lt) ∙ later)

pub point_chosen : (p : Entry → Bool) (es : List Entry) (ks : List ℕ) (i : ℕ) → AreWithin es ks → i ≤ length ks → IsPartitionPoint (λ k. passes p es k ≡ true) (λ k. passes p es k ≡ false) ks i → IsPartitionPoint (λ e. p e ≡ true) (λ e. p e ≡ false) (chosen es ks) i
point_chosen p es ks i h within point =
    let count = chosen_length es ks h in (
      λ k e low lt. sym (passes_at p es ks k 0 e h (omega arith)) ∙ point.0 k 0 low lt,
      λ k e low lt. sym (passes_at p es ks k 0 e h (omega arith)) ∙ point.1 k 0 low (omega arith),
    )

-- where the search of a test among the places ends, the test splits the chosen entries
pub point_of : (p : Entry → Bool) (es : List Entry) (ks : List ℕ) (live : List Entry) (i : ℕ) → AreWithin es ks → chosen es ks ≡ live → i ≤ length ks → IsPartitionedBy p live → (IsPartitionedBy (passes p es) ks → IsPartitionPoint (λ k. passes p es k ≡ true) (λ k. passes p es k ≡ false) ks i) → IsPartitionPoint (λ e. p e ≡ true) (λ e. p e ≡ false) live i
point_of p es ks live i h same within parted found =
    subst (λ xs. IsPartitionPoint (λ e. p e ≡ true) (λ e. p e ≡ false) xs i) same
    (point_chosen p es ks i h within (found (places_parted p es ks h (subst (IsPartitionedBy p) (sym same) parted))))

-- as many are chosen as there are places
pub count_of : (es : List Entry) (ks : List ℕ) (live : List Entry) → AreWithin es ks → chosen es ks ≡ live → length live ≡ length ks
count_of es ks live h same = sym (ap length same) ∙ chosen_length es ks h

-- the entry at a place among the chosen ones stands where that place says
pub place_within : (es : List Entry) (ks : List ℕ) (i k d : ℕ) → AreWithin es ks → i < length ks → k ≡ get_or ks i d → k < length es
place_within es ks i k d h lt at = subst (λ n. n < length es) (sym at) (h i d lt)

chosen_index : (es : List Entry) (ks : List ℕ) (live : List Entry) (i k d : ℕ) (e : Entry) → AreWithin es ks → chosen es ks ≡ live → i < length ks → k ≡ get_or ks i d → get_or live i (get_or es k e) ≡ get_or es k e
chosen_index es ks live i k d e h same lt at =
    let x = get_or es k e in
    let there : slice_get es k ≡ Some (get_or live i x) = ap (slice_get es) at ∙ chosen_at es ks i d x h lt ∙ ap (λ xs. Some (get_or xs i x)) same in
    same_Some (get_or live i x) x (sym there ∙ slice_get-get_or es k e (place_within es ks i k d h lt at))

pub chosen_there : (es : List Entry) (ks : List ℕ) (live : List Entry) (i k d : ℕ) (e : Entry) → AreWithin es ks → chosen es ks ≡ live → i < length ks → k ≡ get_or ks i d → get_or live i e ≡ get_or es k e
chosen_there es ks live i k d e h same lt at =
    let count = count_of es ks live h same in
    get_or_default live i e (get_or es k e) (omega arith) ∙ chosen_index es ks live i k d e h same lt at

-- an entry is added, and its place is put in
pub more_within : (es : List Entry) (e : Entry) (ks : List ℕ) (i k : ℕ) → AreWithin es ks → k ≡ length es → AreWithin (es ++ e ∷ []) (insert ks i k)
more_within es e ks i k h last =
    let more : length (es ++ e ∷ []) ≡ length es + 1 = omega (arith, length-append es (e ∷ [])) in
    let old : AreWithin (es ++ e ∷ []) ks = λ j d lt. (let one = h j d lt in omega arith) in
    All-append (λ n. n < length (es ++ e ∷ [])) (take i ks) (k ∷ drop i ks) (All-take (λ n. n < length (es ++ e ∷ [])) i ks old)
    (All-cons (λ n. n < length (es ++ e ∷ [])) k (drop i ks) (omega arith) (All-drop (λ n. n < length (es ++ e ∷ [])) i ks old))

pub chosen_put : (es : List Entry) (e : Entry) (ks : List ℕ) (live : List Entry) (i k : ℕ) → AreWithin es ks → chosen es ks ≡ live → k ≡ length es → chosen (es ++ e ∷ []) (insert ks i k) ≡ insert live i e
chosen_put es e ks live i k h same last =
    let more : length (es ++ e ∷ []) ≡ length es + 1 = omega (arith, length-append es (e ∷ [])) in
    let old : AreWithin (es ++ e ∷ []) ks = λ j d lt. (let one = h j d lt in omega arith) in
    chosen_insert (es ++ e ∷ []) ks i k e old (ap (slice_get (es ++ e ∷ [])) last ∙ get_last es e)
    ∙ ap (λ xs. insert xs i e) (chosen_more es e ks h ∙ same)
