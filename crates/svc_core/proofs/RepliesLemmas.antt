-- One reply more, and the reply with a number.
use Rattle.std.proofs.Common.{◌≡◌, ℕ, zero, suc, ◌+◌, ◌-◌, ◌≤◌, ◌<◌, true, false, cond, List, [], ◌∷◌, ◌++◌, length, map, get_or, arith, refl, sym, ap, ◌∙◌}
use Rattle.std.specs.Prelude.{◌==◌, ◌≢◌, nat_lt, Some, None, slice_get}
use Rattle.std.specs.List.{All, find, range_with_len}
use Rattle.std.specs.List.Sorted.{IsPartitionPoint}
use Rattle.std.proofs.lemmas.Bool.Decides.{nat_tests}
use Rattle.std.proofs.lemmas.List.Elements.{All-head, All-tail, All-push}
use Rattle.std.proofs.lemmas.List.Quantifiers.{all_pairs_push}
use Rattle.std.proofs.lemmas.List.FromFn.{length-map-range_with_len, map-range_with_len_more, get_or-map-range_with_len}
use Rattle.std.proofs.lemmas.Option.{slice_get-get_or, same_Some}
use Rattle.svc_types.specs.declared.replies.Reply.{Reply}
use Rattle.svc_types.specs.declared.replies.Extra.{Extra}
use Rattle.svc_types.specs.declared.replies.Extra.TheVariants.{Plain}
use Rattle.svc_spec.proofs.FindLemmas.{found_at, absent_at}
use Rattle.svc_core.specs.Posted.{reply}
use Rattle.svc_core.specs.Replies.{or_plain, reply_at, replies_of, AreAmong}

pub replies_length : (n : ℕ) (kept : List Reply) → length (replies_of n kept) ≡ n
unfolding replies_of
replies_length n kept = length-map-range_with_len (reply_at kept) 1 n

-- ---- one reply more

not_there : (kept : List Reply) (n : ℕ) → All (λ r. r.number ≤ n) kept → find (λ r. r.number == n + 1) kept ≡ None
not_there [] n h = refl
not_there (r ∷ kept) n h =
    let low = All-head (λ (q : Reply). q.number ≤ n) r kept h in
    let other : (r.number == n + 1) ≡ false = grind (arith, nat_tests) in
    rw other (not_there kept n (All-tail (λ (q : Reply). q.number ≤ n) r kept h))

-- a reply with a later number hides none
found_before : (kept : List Reply) (last : Reply) (n : ℕ) → n < last.number → find (λ r. r.number == n) (kept ++ last ∷ []) ≡ find (λ r. r.number == n) kept
found_before [] last n lt = let other : (last.number == n) ≡ false = grind (arith, nat_tests) in rw other refl
found_before (r ∷ kept) last n lt =
    elim (r.number == n) as (λ v. cond v (Some r) (find (λ (q : Reply). q.number == n) (kept ++ last ∷ [])) ≡ cond v (Some r) (find (λ (q : Reply). q.number == n) kept)) [
      | true ↦ refl
      | false ↦ found_before kept last n lt
    ]

found_last : (kept : List Reply) (last : Reply) → find (λ r. r.number == last.number) kept ≡ None → find (λ r. r.number == last.number) (kept ++ last ∷ []) ≡ Some last
found_last [] last none = let same : (last.number == last.number) ≡ true = grind (arith, nat_tests) in rw same refl
found_last (r ∷ kept) last none =
    elim (r.number == last.number) as (λ v. cond v (Some r) (find (λ (q : Reply). q.number == last.number) kept) ≡ None → cond v (Some r) (find (λ (q : Reply). q.number == last.number) (kept ++ last ∷ [])) ≡ Some last) [
      | true ↦ λ e. absurd (cc)
      | false ↦ λ e. found_last kept last e
    ] none

-- replies are told by their numbers: two lists that agree up to a number have the same replies up to it
same_up_to : (a n : ℕ) (kept kept' : List Reply) → ((k : ℕ) → k < a + n → reply_at kept' k ≡ reply_at kept k) → map (reply_at kept') (range_with_len a n) ≡ map (reply_at kept) (range_with_len a n)
same_up_to a zero kept kept' h = refl
same_up_to a (suc n) kept kept' h =
    ap (λ r. r ∷ map (reply_at kept') (range_with_len (a + 1) n)) (h a (omega arith))
    ∙ ap (λ rs. reply_at kept a ∷ rs) (same_up_to (a + 1) n kept kept' (λ k lt. h k (omega arith)))

one_more : (n : ℕ) (kept : List Reply) → replies_of (n + 1) kept ≡ replies_of n kept ++ reply_at kept (n + 1) ∷ []
unfolding replies_of
one_more n kept = map-range_with_len_more (reply_at kept) 1 n (n + 1) (omega arith)

-- a reply that says nothing beside its number is not kept
pub plain_more : (n m : ℕ) (kept : List Reply) → m ≡ n + 1 → AreAmong n kept → replies_of m kept ≡ replies_of n kept ++ reply (length (replies_of n kept) + 1) Plain ∷ []
plain_more n m kept is h =
    let count = replies_length n kept in
    let number : n + 1 ≡ length (replies_of n kept) + 1 = omega arith in
    ap (λ k. replies_of k kept) is ∙ one_more n kept
    ∙ ap (λ o. replies_of n kept ++ or_plain (n + 1) o ∷ []) (not_there kept n h.few)
    ∙ ap (λ k. replies_of n kept ++ reply k Plain ∷ []) number

pub kept_more : (n m : ℕ) (kept : List Reply) (extra : Extra) → m ≡ n + 1 → AreAmong n kept → replies_of m (kept ++ reply m extra ∷ []) ≡ replies_of n kept ++ reply (length (replies_of n kept) + 1) extra ∷ []
unfolding replies_of
kept_more n m kept extra is h =
    let last = reply (n + 1) extra in
    let all = kept ++ last ∷ [] in
    let count = replies_length n kept in
    let number : n + 1 ≡ length (replies_of n kept) + 1 = omega arith in
    ap (λ k. replies_of k (kept ++ reply k extra ∷ [])) is ∙ one_more n all
    ∙ ap (λ rs. rs ++ reply_at all (n + 1) ∷ []) (same_up_to 1 n kept all (λ k lt. ap (or_plain k) (found_before kept last k (omega arith))))
    ∙ ap (λ o. replies_of n kept ++ or_plain (n + 1) o ∷ []) (found_last kept last (not_there kept n h.few))
    ∙ ap (λ k. replies_of n kept ++ reply k extra ∷ []) number

pub among_more : (n m : ℕ) (kept : List Reply) → m ≡ n + 1 → AreAmong n kept → AreAmong m kept
among_more n m kept is h = record { rise = h.rise; few = λ k d lt. (let one = h.few k d lt in omega arith) }

pub among_kept : (n m : ℕ) (kept : List Reply) (extra : Extra) → m ≡ n + 1 → AreAmong n kept → AreAmong m (kept ++ reply m extra ∷ [])
among_kept n m kept extra is h = record {
  rise = all_pairs_push (λ (a b : Reply). a.number < b.number) kept (reply m extra) h.rise (λ k d lt. (let one = h.few k d lt in omega arith));
  few = All-push (λ (r : Reply). r.number ≤ m) kept (reply m extra) (λ k d lt. (let one = h.few k d lt in omega arith)) (omega arith);
}

-- ---- the reply with a number

pub there_same : (kept : List Reply) (i : ℕ) (r d : Reply) → i < length kept → r ≡ get_or kept i r → get_or kept i d ≡ r
there_same kept i r d lt is = same_Some (get_or kept i d) (get_or kept i r) (sym (slice_get-get_or kept i d lt) ∙ slice_get-get_or kept i r lt) ∙ sym is

pub other_number : (kept : List Reply) (i n : ℕ) (r d : Reply) → i < length kept → r ≡ get_or kept i r → r.number ≢ n → ((get_or kept i d).number == n) ≡ false
other_number kept i n r d lt is other =
    let no : (r.number == n) ≡ false = grind (arith, nat_tests) in
    ap (λ (q : Reply). q.number == n) (there_same kept i r d lt is) ∙ no

reply_is : (n k : ℕ) (kept : List Reply) (d : Reply) → 1 ≤ k → k ≤ n → slice_get (replies_of n kept) (k - 1) ≡ Some (reply_at kept k)
unfolding replies_of
reply_is n k kept d some few =
    let count = replies_length n kept in
    slice_get-get_or (replies_of n kept) (k - 1) d (omega arith)
    ∙ ap Some (get_or-map-range_with_len (reply_at kept) 1 n (k - 1) k d (omega arith) (omega arith))

pub reply_there : (n k i : ℕ) (kept : List Reply) (r : Reply) → AreAmong n kept → 1 ≤ k → k ≤ n → i < length kept → r ≡ get_or kept i r → r.number ≡ k → Some r ≡ slice_get (replies_of n kept) (k - 1)
reply_there n k i kept r h some few lt is number =
    let named : (get_or kept i r).number ≡ k = ap (λ (q : Reply). q.number) (sym is) ∙ number in
    let found = found_at (λ (q : Reply). q.number) kept k i r h.rise lt named in
    sym (reply_is n k kept r some few ∙ ap (λ o. Some (or_plain k o)) found ∙ ap Some (sym is))

pub reply_plain : (n k i : ℕ) (kept : List Reply) → AreAmong n kept → 1 ≤ k → k ≤ n → IsPartitionPoint (λ (q : Reply). nat_lt q.number k ≡ true) (λ q. nat_lt q.number k ≡ false) kept i → ((d : Reply) → i < length kept → ((get_or kept i d).number == k) ≡ false) → Some (reply k Plain) ≡ slice_get (replies_of n kept) (k - 1)
reply_plain n k i kept h some few point other =
    let none = absent_at (λ (q : Reply). q.number) kept k i h.rise point other in
    sym (reply_is n k kept (reply k Plain) some few ∙ ap (λ o. Some (or_plain k o)) none)
