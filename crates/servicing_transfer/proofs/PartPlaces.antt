-- The places of commands in a part count its commands, and its keys are new there.
use Rattle.std.proofs.Common.{◌≡◌, ℕ, zero, suc, ◌+◌, ◌-◌, ◌≤◌, ◌<◌, Bool, true, false, cond, not, List, [], ◌∷◌, ◌++◌, map, length, take, arith, refl, sym, ap, subst, ◌∙◌, length-append, append-nil}
use Rattle.std.specs.Prelude.{◌||◌, if◌then◌else◌, Option, Some, None}
use Rattle.std.specs.List.{filter, list_any}
use Rattle.std.proofs.Math.Seq.{take-append_seam}
use Rattle.std.proofs.lemmas.List.Elements.{filter-append}
use Rattle.svc_types.specs.declared.requests.Command.{Command}
use Rattle.svc_types.specs.declared.replies.Reply.{Reply}
use Rattle.svc_types.specs.declared.replies.Refusal.{Refusal}
use Rattle.svc_types.specs.declared.replies.Refusal.TheVariants.{KeyReused}
use Rattle.svc_types.specs.Same.{is_same}
use Rattle.svc_world.specs.World.{World, Accepted, first_world, after, world}
use Rattle.svc_world.specs.Refusals.{refusal_of}
use Rattle.svc_world.specs.Judging.{Kept, Refused, Fresh, by_refusal, by_key, is_key, reply_of, Known, known_from, known, judged, IsHistoryFrom}
use Rattle.servicing_transfer.specs.Parts.{is_part, place_in, months_for}
use Rattle.servicing_transfer.proofs.Renumbering.{Counts}

-- ---- places

fewer : {X : Type 0} (p : X → Bool) (i j : ℕ) (xs : List X) → i ≤ j → length (filter p (take i xs)) ≤ length (filter p (take j xs))
fewer p zero j xs le = omega arith
fewer p (suc i) zero xs le = absurd (omega arith)
fewer p (suc i) (suc j) [] le = omega arith
fewer p (suc i) (suc j) (x ∷ xs) le =
    let rest = fewer p i j xs (omega arith) in
    elim (p x) as (λ v. length (cond v (x ∷ filter p (take i xs)) (filter p (take i xs))) ≤ length (cond v (x ∷ filter p (take j xs)) (filter p (take j xs)))) [
      | true ↦ omega (arith, rest)
      | false ↦ rest
    ]

pub place_counts : (set : ℕ → Bool) (h : List Accepted) → Counts (place_in set h)
place_counts set h i j le = fewer (is_part set (months_for set h)) i j h le

filter_most : {X : Type 0} (p : X → Bool) (xs : List X) → length (filter p xs) ≤ length xs
filter_most p [] = omega arith
filter_most p (x ∷ xs) =
    let rest = filter_most p xs in
    elim (p x) as (λ v. length (cond v (x ∷ filter p xs) (filter p xs)) ≤ suc (length xs)) [ true ↦ omega (arith, rest) | false ↦ omega (arith, rest) ]

take_most : {X : Type 0} (n : ℕ) (xs : List X) → length (take n xs) ≤ length xs
take_most zero xs = omega arith
take_most (suc n) [] = omega arith
take_most (suc n) (x ∷ xs) = let rest = take_most n xs in omega (arith, rest)

-- no place is beyond the history
pub place_most : (set : ℕ → Bool) (h : List Accepted) (n : ℕ) → place_in set h n ≤ length h
place_most set h n =
    let a = filter_most (is_part set (months_for set h)) (take n h) in
    let b = take_most n h in
    omega (arith, a, b)

-- the place of the last of the first commands
place_at : (set : ℕ → Bool) (h done more : List Accepted) → h ≡ done ++ more → place_in set h (length done) ≡ length (filter (is_part set (months_for set h)) done)
place_at set h done more e =
    ap (λ x. length (filter (is_part set (months_for set h)) (take (length done) x))) e
    ∙ ap (λ x. length (filter (is_part set (months_for set h)) x)) (take-append_seam done more)

-- the place after one command more is one more where the part keeps it
abbrev pub next_place : Bool → ℕ → ℕ
next_place true n = n + 1
next_place false n = n

-- so the places of the commands to come
abbrev pub ArePlaced : (ℕ → Bool) → (ℕ → Bool) → (ℕ → ℕ) → ℕ → List Accepted → Type 0
ArePlaced set months place n [] = Unit {0}
ArePlaced set months place n (a ∷ more) = (place (n + 1) ≡ next_place (is_part set months a) (place n)) × ArePlaced set months place (n + 1) more

more_of : {X : Type 0} (p : X → Bool) (xs : List X) (x : X) → length (filter p (xs ++ x ∷ [])) ≡ next_place (p x) (length (filter p xs))
more_of p xs x =
    ap length (filter-append p xs (x ∷ []))
    ∙ length-append (filter p xs) (filter p (x ∷ []))
    ∙ elim (p x) as (λ v. length (filter p xs) + length (cond v (x ∷ []) []) ≡ next_place v (length (filter p xs))) [
      | true ↦ omega arith
      | false ↦ omega arith
    ]

pub are_placed : (set : ℕ → Bool) (h done more : List Accepted) → h ≡ done ++ more → ArePlaced set (months_for set h) (place_in set h) (length done) more
are_placed set h done [] e = tt
are_placed set h done (a ∷ more) e =
    let next : h ≡ (done ++ a ∷ []) ++ more = e ∙ sym (Rattle.std.proofs.Common.append_assoc done (a ∷ []) more) in
    let count : length (done ++ a ∷ []) ≡ length done + 1 = omega (arith, length-append done (a ∷ [])) in (
      ap (place_in set h) (sym count) ∙ place_at set h (done ++ a ∷ []) more next
          ∙ more_of (is_part set (months_for set h)) done a
          ∙ ap (next_place (is_part set (months_for set h) a)) (sym (place_at set h done (a ∷ more) e)),
      subst (λ n. ArePlaced set (months_for set h) (place_in set h) n more) count (are_placed set h (done ++ a ∷ []) more next),
    )

-- ---- keys

-- a command has the key
abbrev pub is_taken : List ℕ → List Accepted → Bool
is_taken key h = list_any (λ (a : Accepted). is_key a.key key) h

pub taken_more : (key : List ℕ) (h : List Accepted) (a : Accepted) → is_taken key (h ++ a ∷ []) ≡ (is_taken key h || is_key a.key key)
taken_more key [] a = elim (is_key a.key key) as (λ v. (v || false) ≡ v) [ true ↦ refl | false ↦ refl ]
taken_more key (x ∷ h) a =
    let rest = taken_more key h a in
    elim (is_key x.key key) as (λ v. (v || is_taken key (h ++ a ∷ [])) ≡ ((v || is_taken key h) || is_key a.key key)) [ true ↦ refl | false ↦ rest ]

taken_none : (n : ℕ) (w : World) (h : List Accepted) (key : List ℕ) → known_from n w h key ≡ None → is_taken key h ≡ false
unfolding known_from
taken_none n w [] key e = refl
taken_none n w (a ∷ h) key e =
    elim (is_key a.key key) as (λ v. (if v then Some (record { command = a.command; reply = reply_of (n + 1) w a.command }) else known_from (n + 1) (after (n + 1) w a.command) h key) ≡ None → (v || is_taken key h) ≡ false) [
      | true ↦ λ x. absurd (cc)
      | false ↦ λ x. taken_none (n + 1) (after (n + 1) w a.command) h key x
    ] e

none_taken : (n : ℕ) (w : World) (h : List Accepted) (key : List ℕ) → is_taken key h ≡ false → known_from n w h key ≡ None
unfolding known_from
none_taken n w [] key e = refl
none_taken n w (a ∷ h) key e =
    elim (is_key a.key key) as (λ v. (v || is_taken key h) ≡ false → (if v then Some (record { command = a.command; reply = reply_of (n + 1) w a.command }) else known_from (n + 1) (after (n + 1) w a.command) h key) ≡ None) [
      | true ↦ λ x. absurd (cc)
      | false ↦ λ x. none_taken (n + 1) (after (n + 1) w a.command) h key x
    ] e

not_fresh : (b : Bool) (r : Reply) (why : Refusal) → (if b then Kept r else Refused why) ≡ Fresh → ⊥
not_fresh true r why e = cc
not_fresh false r why e = cc

fresh_key : (h : List Accepted) (c : Command) (o : Option Known) → by_key h c o ≡ Fresh → o ≡ None
fresh_key h c None e = refl
fresh_key h c (Some k) e = absurd (not_fresh (is_same k.command c) k.reply (KeyReused k.reply.number) e)

-- the key of a fresh command is new
fresh_new : (h : List Accepted) (key : List ℕ) (c : Command) → judged h key c ≡ Fresh → is_taken key h ≡ false
unfolding judged
fresh_new h key c e = taken_none 0 first_world h key (fresh_key h c (known h key) e)

-- a command with a new key that no rule refuses is fresh
pub fresh_by : (h : List Accepted) (key : List ℕ) (c : Command) → is_taken key h ≡ false → refusal_of (length h) (world h) c ≡ None → judged h key c ≡ Fresh
unfolding judged
fresh_by h key c new none = ap (by_key h c) (none_taken 0 first_world h key new) ∙ ap by_refusal none

-- the keys of commands to come are new
abbrev pub AreNew : List Accepted → List Accepted → Type 0
AreNew h [] = Unit {0}
AreNew h (a ∷ more) = (is_taken a.key h ≡ false) × AreNew (h ++ a ∷ []) more

pub are_new : (h more : List Accepted) → IsHistoryFrom h more → AreNew h more
are_new h [] fresh = tt
are_new h (a ∷ more) fresh = (fresh_new h a.key a.command fresh.0, are_new (h ++ a ∷ []) more fresh.1)
