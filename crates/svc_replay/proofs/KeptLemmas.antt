-- What the fields of an account keep.
use Rattle.std.proofs.Common.{◌≡◌, ℕ, zero, suc, ◌+◌, ◌≤◌, ◌<◌, true, false, cond, List, [], ◌∷◌, ◌++◌, length, map, get_or, set, arith, refl, sym, ap, subst, ◌∙◌}
use Rattle.std.specs.Prelude.{◌==◌, ◌||◌, not, is_some, Option, Some, None}
use Rattle.std.specs.List.{All, AllPairs, Contains, filter, find}
use Rattle.std.specs.Option.{option_map}
use Rattle.std.proofs.lemmas.Bool.Decides.{nat_tests}
use Rattle.svc_base.specs.Calendar.{month_of, IsDay}
use Rattle.svc_types.specs.declared.terms.Terms.{Terms}
use Rattle.svc_types.specs.declared.account.Entry.{Entry}
use Rattle.svc_types.specs.Live.{placed, live_entries, is_reversed}
use Rattle.svc_types.proofs.OrderLemmas.{follows, live_order, pairs_tail, pairs_head}
use Rattle.svc_spec.specs.Entries.{AreEntries}
use Rattle.svc_spec.specs.Accounts.{Account, live_of, entry_of, reverser_of, IsAccount, MayBegin, MayPost}
use Rattle.svc_spec.specs.Months.{cost_of_month, counted}
use Rattle.svc_spec.proofs.AccountLemmas.{live_after_post, live_after_reversal, live_few, live_entries_fold, begun_account, posted_account, reversed_account, not_yet_reversed}
use Rattle.svc_spec.proofs.FindLemmas.{find_there}
use Rattle.svc_spec.proofs.CostLemmas.{refold_within}
use Rattle.svc_replay.specs.Kept.{IsKept, IsPlaceOf, differ, reversers_of}
use Rattle.svc_replay.proofs.RemoveLemmas.{live_differ, live_there}

-- ---- what reversed an entry

map_append : {X Y : Type 0} (f : X → Y) (xs ys : List X) → map f (xs ++ ys) ≡ map f xs ++ map f ys
map_append f [] ys = refl
map_append f (x ∷ xs) ys = ap (λ zs. f x ∷ zs) (map_append f xs ys)

-- what a list of reversals says of a number
abbrev said_of : List (ℕ × ℕ) → ℕ → Option ℕ
said_of rs n = option_map (λ r. r.1) (find (λ r. r.0 == n) rs)

said_none : (rs : List (ℕ × ℕ)) (n : ℕ) → is_reversed rs n ≡ false → said_of rs n ≡ None
said_none [] n h = refl
said_none (r ∷ rs) n h =
    elim (r.0 == n) as (λ v. (r.0 == n) ≡ v → option_map (λ (x : ℕ × ℕ). x.1) (cond v (Some r) (find (λ x. x.0 == n) rs)) ≡ None) [
      | true ↦ λ e. let named : true ≡ false = rw e at h in cc
      | false ↦ λ e. said_none rs n (rw e at h)
    ] refl

unsaid : (rs : List (ℕ × ℕ)) (n : ℕ) → said_of rs n ≡ None → is_reversed rs n ≡ false
unsaid [] n h = refl
unsaid (r ∷ rs) n h =
    elim (r.0 == n) as (λ v. option_map (λ (x : ℕ × ℕ). x.1) (cond v (Some r) (find (λ x. x.0 == n) rs)) ≡ None → (v || is_reversed rs n) ≡ false) [
      | true ↦ λ some. let wrong : Some r.1 ≡ None = some in cc
      | false ↦ λ none. unsaid rs n none
    ] h

-- one more reversal says nothing of other numbers
said_other : (rs : List (ℕ × ℕ)) (number by n : ℕ) → (number == n) ≡ false → said_of (rs ++ (number, by) ∷ []) n ≡ said_of rs n
said_other [] number by n h = rw h
said_other (r ∷ rs) number by n h =
    elim (r.0 == n) as (λ v. option_map (λ (x : ℕ × ℕ). x.1) (cond v (Some r) (find (λ x. x.0 == n) (rs ++ (number, by) ∷ []))) ≡ option_map (λ (x : ℕ × ℕ). x.1) (cond v (Some r) (find (λ x. x.0 == n) rs))) [
      | true ↦ refl
      | false ↦ said_other rs number by n h
    ]

-- and of its own what it is, where none did before
said_now : (rs : List (ℕ × ℕ)) (number by : ℕ) → said_of rs number ≡ None → said_of (rs ++ (number, by) ∷ []) number ≡ Some by
said_now [] number by h = let same : (number == number) ≡ true = grind (arith, nat_tests) in rw same
said_now (r ∷ rs) number by h =
    elim (r.0 == number) as (λ v. (r.0 == number) ≡ v → option_map (λ (x : ℕ × ℕ). x.1) (cond v (Some r) (find (λ x. x.0 == number) (rs ++ (number, by) ∷ []))) ≡ Some by) [
      | true ↦ λ e. let some : Some r.1 ≡ None = rw e at h in cc
      | false ↦ λ e. said_now rs number by (rw e at h)
    ] refl

noted_others : (xs : List Entry) (f f' : ℕ → Option ℕ) (number : ℕ) → All (λ e. (number == e.number) ≡ false) xs → ((n : ℕ) → (number == n) ≡ false → f' n ≡ f n) → map (λ e. f' e.number) xs ≡ map (λ e. f e.number) xs
noted_others [] f f' number h other = refl
noted_others (x ∷ xs) f f' number h other =
    ap (λ y. y ∷ map (λ e. f' e.number) xs) (other x.number (h 0 x (omega arith)))
    ∙ ap (λ ys. f x.number ∷ ys) (noted_others xs f f' number (λ k d lt. h (suc k) d (omega arith)) other)

-- the place of a number is where its reversal is noted
noted : (xs : List Entry) (f f' : ℕ → Option ℕ) (number i : ℕ) (o : Option ℕ) → AllPairs (λ e x. e.number < x.number) xs → i < length xs → ((d : Entry) → (get_or xs i d).number ≡ number) → ((n : ℕ) → (number == n) ≡ false → f' n ≡ f n) → f' number ≡ o → map (λ e. f' e.number) xs ≡ set (map (λ e. f e.number) xs) i o
noted [] f f' number i o h lt is other here = absurd (omega arith)
noted (x ∷ xs) f f' number zero o h lt is other here =
    let same : x.number ≡ number = is x in
    let rest = noted_others xs f f' number (λ k d within. let rises = pairs_head (λ e y. e.number < y.number) x xs h k d within in let apart : (number == (get_or xs k d).number) ≡ false = grind (arith, nat_tests) in apart) other in
    let first : f' x.number ≡ o = ap f' same ∙ here in
    ap (λ y. y ∷ map (λ e. f' e.number) xs) first ∙ ap (λ ys. o ∷ ys) rest
noted (x ∷ xs) f f' number (suc i) o h lt is other here =
    let rises = pairs_head (λ e y. e.number < y.number) x xs h i x (omega arith) in
    let same = is x in
    let apart : (number == x.number) ≡ false = grind (arith, nat_tests) in
    ap (λ y. y ∷ map (λ e. f' e.number) xs) (other x.number apart)
    ∙ ap (λ ys. f x.number ∷ ys) (noted xs f f' number i o (pairs_tail (λ e y. e.number < y.number) x xs h) (omega arith) is other here)

get_mapped : {X Y : Type 0} (f : X → Y) (xs : List X) (i : ℕ) (d : X) (o : Y) → i < length xs → get_or (map f xs) i o ≡ f (get_or xs i d)
get_mapped f [] i d o lt = absurd (omega arith)
get_mapped f (x ∷ xs) zero d o lt = refl
get_mapped f (x ∷ xs) (suc i) d o lt = get_mapped f xs i d o (omega arith)

same_number : (a b : ℕ) → (a == b) ≡ true → a ≡ b
same_number a b h = grind (arith, nat_tests)

none_named : (rs : List (ℕ × ℕ)) (entries : List Entry) (number : ℕ) → All (λ r. is_some (find (λ (e : Entry). e.number == r.0) entries) ≡ true) rs → find (λ (e : Entry). e.number == number) entries ≡ None → is_reversed rs number ≡ false
none_named [] entries number h none = refl
none_named (r ∷ rs) entries number h none =
    let rest = none_named rs entries number (λ k d lt. h (suc k) d (omega arith)) none in
    elim (r.0 == number) as (λ v. (r.0 == number) ≡ v → (v || is_reversed rs number) ≡ false) [
      | true ↦ λ e.
          let same : r.0 ≡ number = same_number r.0 number e in
          let first : is_some (find (λ (x : Entry). x.number == r.0) entries) ≡ true = h 0 r (omega arith) in
          let wrong : is_some (find (λ (x : Entry). x.number == number) entries) ≡ true = rw same at first in
          let absent : false ≡ true = rw none at wrong in
          cc
      | false ↦ λ e. rest
    ] refl

-- ---- the place of an entry

-- some entry, where there is one
first_entry : (xs : List Entry) (i : ℕ) → i < length xs → Entry
first_entry [] i lt = absurd (omega arith)
first_entry (x ∷ xs) i lt = x

pub any_entry : (a : Account) (i : ℕ) → i < length a.entries → Entry
any_entry a i lt = first_entry a.entries i lt

-- ---- the fields of an account

pub kept_new : (t : Terms) (d : ℕ) (es : List Entry) (rs : List (ℕ × ℕ)) (l : List Entry) (by : List (Option ℕ)) → es ≡ [] → rs ≡ [] → l ≡ [] → by ≡ [] → MayBegin t d → IsKept (record { terms = t; entries = es; reversals = rs; today = d }) l by
unfolding live_entries
kept_new t d es rs l by pe pr pl pb may = rw (pe, pr, pl, pb) (record { account = begun_account t d may; live = refl; reversed = refl })

-- the live entries that an account keeps can be folded
pub kept_count : (a : Account) (l l' : List Entry) (by : List (Option ℕ)) → IsKept a l by → l' ≡ l → length l' ≤ 4_096
kept_count a l l' by h same =
    let few = h.account.few in
    let is = ap length (same ∙ h.live) in
    omega (arith, live_few a)

pub kept_entries : (a : Account) (l l' : List Entry) (by : List (Option ℕ)) → IsKept a l by → l' ≡ l → AreEntries a.terms l'
kept_entries a l l' by h same = subst (AreEntries a.terms) (sym (same ∙ h.live)) (live_entries_fold a h.account)

-- what a fold from boarding counts
pub kept_counted : (a b : Account) (l l' : List Entry) (by : List (Option ℕ)) (d old new : ℕ) → b ≡ a → IsKept a l by → l' ≡ l → new + 1 ≡ old + counted a.terms l' d → new + 1 ≡ old + counted b.terms (live_of b) d
kept_counted a b l l' by d old new same h live steps =
    let is : l' ≡ live_of a = live ∙ h.live in
    rw same (steps ∙ ap (λ xs. old + counted a.terms xs d) is)

-- it stays within the cost of the boarded month
pub kept_steps : (b : Account) (d old new : ℕ) → IsAccount b → b.terms.boarded ≤ d → d ≤ b.today → new + 1 ≡ old + counted b.terms (live_of b) d → new ≤ old + cost_of_month b (month_of b.terms.boarded)
kept_steps b d old new h after until steps = omega (arith, refold_within b d h after until, steps)

pub kept_order : (a : Account) (l l' : List Entry) (by : List (Option ℕ)) → IsKept a l by → l' ≡ l → AllPairs follows l'
kept_order a l l' by h same = subst (AllPairs follows) (sym (same ∙ h.live)) (live_order a.entries a.reversals)

pub kept_differ : (a : Account) (l l' : List Entry) (by : List (Option ℕ)) → IsKept a l by → l' ≡ l → AllPairs differ l'
kept_differ a l l' by h same = subst (AllPairs differ) (sym (same ∙ h.live)) (live_differ a.entries a.reversals h.account.rising)

-- an entry is posted: it stands last by number, and in its place among the live ones
pub kept_posted : (a b : Account) (e : Entry) (l l' es : List Entry) (by by' : List (Option ℕ)) → IsKept a l by → b ≡ a → MayPost b e → IsDay e.day → length a.entries < 4_096 → es ≡ a.entries ++ e ∷ [] → by' ≡ by ++ None ∷ [] → l' ≡ placed e l → IsKept (record { terms = a.terms; entries = es; reversals = a.reversals; today = a.today }) l' by'
kept_posted a b e l l' es by by' h same may is room more noted place =
    let may' : MayPost a e = rw same at may in
    let none : reverser_of a e.number ≡ None = said_none a.reversals e.number (not_yet_reversed a e h.account may') in
    let both : by' ≡ reversers_of a ++ reverser_of a e.number ∷ [] = noted ∙ ap (λ xs. xs ++ None ∷ []) h.reversed ∙ ap (λ o. reversers_of a ++ o ∷ []) (sym none) in
    rw more (record {
      account = posted_account a e h.account may' is room;
      live = place ∙ ap (placed e) h.live ∙ sym (live_after_post a e h.account may');
      reversed = both ∙ sym (map_append (λ (x : Entry). reverser_of a x.number) a.entries (e ∷ []));
    })

pub found_some : (o : Option Entry) (e : Entry) → o ≡ Some e → is_some o ≡ true
found_some o e h = rw h

-- there is an entry at the place of a number
pub place_there : (a : Account) (number i : ℕ) (d : Entry) → IsAccount a → IsPlaceOf number a.entries (Some i) → entry_of a number ≡ Some (get_or a.entries i d)
place_there a number i d h place = find_there a.entries number i d h.rising place.0 (place.1 d)

-- an entry is reversed: it leaves the live ones, and the reversal is noted at its place
pub kept_reversed : (a b : Account) (number by i : ℕ) (l l' : List Entry) (rs : List (ℕ × ℕ)) (noted_by noted_by' : List (Option ℕ)) → IsKept a l noted_by → b ≡ a → IsPlaceOf number a.entries (Some i) → reverser_of a number ≡ None → rs ≡ a.reversals ++ (number, by) ∷ [] → l' ≡ filter (λ e. not (number == e.number)) l → noted_by' ≡ set noted_by i (Some by) → (e : Entry) → IsKept (record { terms = a.terms; entries = a.entries; reversals = rs; today = a.today }) l' noted_by'
kept_reversed a b number by i l l' rs noted_by noted_by' h same place free more left now e =
    let there : is_some (entry_of a number) ≡ true = found_some (entry_of a number) (get_or a.entries i e) (place_there a number i e h.account place) in
    let all = noted a.entries (said_of a.reversals) (said_of (a.reversals ++ (number, by) ∷ [])) number i (Some by) h.account.rising place.0 place.1 (λ n other. said_other a.reversals number by n other) (said_now a.reversals number by free) in
    rw more (record {
      account = reversed_account a number by h.account there;
      live = left ∙ ap (filter (λ e. not (number == e.number))) h.live ∙ sym (live_after_reversal a number by);
      reversed = now ∙ ap (λ xs. set xs i (Some by)) h.reversed ∙ sym all;
    })

-- what is noted at the place of a number is what reversed the entry
pub noted_at : (a : Account) (l : List Entry) (noted_by : List (Option ℕ)) (number i : ℕ) (o : Option ℕ) (e : Entry) → IsKept a l noted_by → IsPlaceOf number a.entries (Some i) → o ≡ get_or noted_by i o → o ≡ reverser_of a number
noted_at a l noted_by number i o e h place is =
    is ∙ ap (λ xs. get_or xs i o) h.reversed ∙ get_mapped (λ (x : Entry). reverser_of a x.number) a.entries i e o place.0 ∙ ap (reverser_of a) (place.1 e)

-- where no entry has the number, no reversal names it
pub none_noted : (a : Account) (number : ℕ) → IsAccount a → entry_of a number ≡ None → reverser_of a number ≡ None
none_noted a number h none = said_none a.reversals number (none_named a.reversals a.entries number h.named none)

-- ---- a number that has a place among the entries

pub entry_here : {a b : Account} {l : List Entry} {by : List (Option ℕ)} (number i : ℕ) (xs : List Entry) → IsKept a l by → b ≡ a → xs ≡ a.entries → IsPlaceOf number xs (Some i) → (e : Entry) × (entry_of b number ≡ Some e)
entry_here {a} number i xs h same is place =
    let place' : IsPlaceOf number a.entries (Some i) = subst (λ ys. IsPlaceOf number ys (Some i)) is place in
    let e = any_entry a i place'.0 in
    (get_or a.entries i e, ap (λ x. entry_of x number) same ∙ place_there a number i e h.account place')

pub known_here : {a b : Account} {l : List Entry} {by : List (Option ℕ)} (number i : ℕ) (xs : List Entry) → IsKept a l by → b ≡ a → xs ≡ a.entries → IsPlaceOf number xs (Some i) → entry_of b number ≡ None → ⊥
known_here number i xs h same is place none =
    let there = entry_here number i xs h same is place in
    let wrong : None ≡ Some there.0 = sym none ∙ there.1 in
    cc

pub reverser_here : {a b : Account} {l : List Entry} {by : List (Option ℕ)} (number i : ℕ) (xs : List Entry) (o : Option ℕ) → IsKept a l by → b ≡ a → xs ≡ a.entries → IsPlaceOf number xs (Some i) → o ≡ get_or by i o → reverser_of b number ≡ o
reverser_here {a} {b} {l} {by} number i xs o h same is place noted =
    let place' : IsPlaceOf number a.entries (Some i) = subst (λ ys. IsPlaceOf number ys (Some i)) is place in
    ap (λ x. reverser_of x number) same ∙ sym (noted_at a l by number i o (any_entry a i place'.0) h place' noted)

-- where no reversal names it, the entry is among the live ones
pub live_here : {a b : Account} {l : List Entry} {by : List (Option ℕ)} (number i : ℕ) (xs l' : List Entry) (e : Entry) → IsKept a l by → b ≡ a → xs ≡ a.entries → IsPlaceOf number xs (Some i) → l' ≡ l → None ≡ get_or by i None → e ≡ get_or a.entries i e → Contains l' e
live_here {a} {b} {l} {by} number i xs l' e h same is place kept free at =
    let place' : IsPlaceOf number a.entries (Some i) = subst (λ ys. IsPlaceOf number ys (Some i)) is place in
    let none = reverser_here number i xs None h same is place free in
    let none' : said_of a.reversals number ≡ None = rw same at none in
    let named : e.number ≡ number = ap (λ (x : Entry). x.number) at ∙ place'.1 e in
    let unnamed : is_reversed a.reversals e.number ≡ false = unsaid a.reversals e.number (rw named none') in
    subst (λ zs. Contains zs e) (sym (kept ∙ h.live)) (live_there a.entries a.reversals e i place'.0 (sym at) unnamed)
