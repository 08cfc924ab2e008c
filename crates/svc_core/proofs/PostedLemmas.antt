-- One command more under a key that no other has.
use Rattle.std.proofs.Common.{◌≡◌, ℕ, zero, suc, ◌+◌, ◌-◌, ◌≤◌, ◌<◌, get_or, Bool, true, false, cond, List, [], ◌∷◌, ◌++◌, length, arith, refl, sym, ap, ◌∙◌, length-append}
use Rattle.std.proofs.lemmas.Bool.Decides.{Decides-eqb}
use Rattle.std.proofs.lemmas.Slice.Eq.{slice_eq-Decides}
use Rattle.std.specs.Prelude.{Some, None, if◌then◌else◌}
use Rattle.std.specs.List.{position, position_from}
use Rattle.std.specs.Map.{keys_of, lookup}
use Rattle.std.specs.Option.{option_map}
use Rattle.std.specs.List.{All}
use Rattle.std.proofs.lemmas.Iterator.Adapters.{position_from-zero}
use Rattle.std.proofs.lemmas.List.{map-append}
use Rattle.std.proofs.lemmas.List.Elements.{All-head, All-tail, All-push}
use Rattle.indexmap.specs.IndexMap.{IndexMap, insert_entry}
use Rattle.indexmap.proofs.CallerLemmas.{insert_entry-new}
use Rattle.svc_types.specs.declared.terms.Terms.{Terms}
use Rattle.svc_types.specs.declared.requests.Command.{Command}
use Rattle.svc_types.specs.declared.replies.Reply.{Reply}
use Rattle.svc_world.specs.World.{World, Accepted, accepted, first_world, after, world_from, world}
use Rattle.svc_world.specs.Judging.{is_key, nth_accepted, reply_of, next_reply, known_from}
use Rattle.svc_core.specs.declared.brief.Brief.{Brief}
use Rattle.svc_core.specs.Briefs.{terms_in, brief_of, command_of, StandsWithin}
use Rattle.svc_core.specs.Posted.{number_from, number_of, history_of, pairs_of, known_as, known_among, replies_from, replies_to}
use Rattle.svc_core.proofs.BriefLemmas.{same_command, stands_for, stands_within}

history_push : (ps : List (List ℕ × Command)) (p : List ℕ × Command) → history_of (ps ++ p ∷ []) ≡ history_of ps ++ accepted p.0 p.1 ∷ []
history_push [] p = refl
history_push (q ∷ qs) p = ap (λ h. accepted q.0 q.1 ∷ h) (history_push qs p)

same_key : (a b : List ℕ) → is_key a b ≡ true → a ≡ b
same_key a b h = (slice_eq-Decides Decides-eqb a b (is_key a b) refl).0 h

-- two keys are compared either way
same_way : (a b : List ℕ) → is_key a b ≡ is_key b a
same_way a b = elim (is_key a b) as (λ v. is_key a b ≡ v → v ≡ is_key b a) [
  | true ↦ λ e. (let same = same_key a b e in sym (ap (λ k. is_key k a) (sym same) ∙ (ap (is_key a) same ∙ e)))
  | false ↦ λ e. elim (is_key b a) as (λ v. is_key b a ≡ v → false ≡ v) [
    | true ↦ λ e'. (let same = same_key b a e' in sym e ∙ (ap (λ k. is_key k b) (sym same) ∙ (ap (is_key b) same ∙ e')))
    | false ↦ λ e'. refl
  ] refl
] refl

numbered : (i : ℕ) (ps : List (List ℕ × Command)) (key : List ℕ) → number_from (i + 1) (history_of ps) key ≡ option_map (λ k. k + 1) (position_from (is_key key) i (keys_of ps))
numbered i [] key = refl
numbered i (p ∷ ps) key =
    ap (λ v. if v then Some (i + 1) else number_from (i + 1 + 1) (history_of ps) key) (same_way p.0 key)
    ∙ elim (is_key key p.0) as (λ v. (if v then Some (i + 1) else number_from (i + 1 + 1) (history_of ps) key) ≡ option_map (λ k. k + 1) (cond v (Some i) (position_from (is_key key) (i + 1) (keys_of ps)))) [
      | true ↦ refl
      | false ↦ numbered (i + 1) ps key
    ]

-- the number of a key's command is one more than its place
number_at : (ps : List (List ℕ × Command)) (key : List ℕ) → option_map (λ k. k + 1) (position (is_key key) (keys_of ps)) ≡ number_of (history_of ps) key
number_at ps key = ap (option_map (λ k. k + 1)) (position_from-zero (is_key key) (keys_of ps)) ∙ sym (numbered 0 ps key)

-- a key that has no number has no command
none_there : (ps : List (List ℕ × Command)) (key : List ℕ) → number_of (history_of ps) key ≡ None → lookup (is_key key) ps ≡ None
none_there ps key none = absent_from 0 ps key none
  where
    absent_from : (i : ℕ) (ps : List (List ℕ × Command)) (key : List ℕ) → number_from (i + 1) (history_of ps) key ≡ None → lookup (is_key key) ps ≡ None
    absent_from i [] key e = refl
    absent_from i (p ∷ ps) key e =
        elim (is_key key p.0) as (λ v. (if v then Some (i + 1) else number_from (i + 1 + 1) (history_of ps) key) ≡ None → cond v (Some p.1) (lookup (is_key key) ps) ≡ None) [
          | true ↦ λ is. absurd (cc)
          | false ↦ λ is. absent_from (i + 1) ps key is
        ] (sym (ap (λ v. if v then Some (i + 1) else number_from (i + 1 + 1) (history_of ps) key) (same_way p.0 key)) ∙ e)

-- ---- commands as they are kept

keys_paired : (ts : List Terms) (ps : List (List ℕ × Brief)) → keys_of (pairs_of ts ps) ≡ keys_of ps
keys_paired ts [] = refl
keys_paired ts (p ∷ ps) = ap (λ ks. p.0 ∷ ks) (keys_paired ts ps)

-- the number of a key's command is one more than its place among them
pub number_at_key : (ts : List Terms) (ps : List (List ℕ × Brief)) (key : List ℕ) → option_map (λ k. k + 1) (position (is_key key) (keys_of ps)) ≡ number_of (history_of (pairs_of ts ps)) key
number_at_key ts ps key = ap (λ ks. option_map (λ k. k + 1) (position (is_key key) ks)) (sym (keys_paired ts ps)) ∙ number_at (pairs_of ts ps) key

none_kept : (test : List ℕ → Bool) (ts : List Terms) (ps : List (List ℕ × Brief)) → lookup test (pairs_of ts ps) ≡ None → lookup test ps ≡ None
none_kept test ts [] e = refl
none_kept test ts (p ∷ ps) e =
    elim (test p.0) as (λ v. cond v (Some (command_of ts p.1)) (lookup test (pairs_of ts ps)) ≡ None → cond v (Some p.1) (lookup test ps) ≡ None) [
      | true ↦ λ is. absurd (cc)
      | false ↦ λ is. none_kept test ts ps is
    ] e

-- a command that is put in under a key without a number stands last
pub stands_last : {S : Type 0} (map : IndexMap (List ℕ) Brief S) (new : List (List ℕ × Brief)) (ts : List Terms) (key : List ℕ) (b : Brief) → new ≡ insert_entry is_key map.entries key b
    → number_of (history_of (pairs_of ts map.entries)) key ≡ None → new ≡ map.entries ++ (key, b) ∷ []
stands_last map new ts key b is none = is ∙ insert_entry-new is_key map key b (none_kept (is_key key) ts map.entries (none_there (pairs_of ts map.entries) key none))

pub pairs_length : (ts : List Terms) (ps : List (List ℕ × Brief)) → length (pairs_of ts ps) ≡ length ps
pairs_length ts [] = refl
pairs_length ts (p ∷ ps) = ap suc (pairs_length ts ps)

pub history_length : (ts : List Terms) (ps : List (List ℕ × Brief)) → length (history_of (pairs_of ts ps)) ≡ length ps
history_length ts [] = refl
history_length ts (p ∷ ps) = ap suc (history_length ts ps)

-- the terms of one more loan change no command before it
pairs_more : (ts more : List Terms) (ps : List (List ℕ × Brief)) → All (λ (p : List ℕ × Brief). StandsWithin (length ts) p.1) ps → pairs_of (ts ++ more) ps ≡ pairs_of ts ps
pairs_more ts more [] h = refl
pairs_more ts more (p ∷ ps) h =
    let P : List ℕ × Brief → Type 0 = λ q. StandsWithin (length ts) q.1 in
    ap (λ (c : Command). (p.0, c) ∷ pairs_of (ts ++ more) ps) (same_command ts more p.1 (All-head P p ps h))
    ∙ ap (λ qs. (p.0, command_of ts p.1) ∷ qs) (pairs_more ts more ps (All-tail P p ps h))

-- one command more
pub pairs_next : (ts : List Terms) (ps : List (List ℕ × Brief)) (key : List ℕ) (c : Command) → All (λ (p : List ℕ × Brief). StandsWithin (length ts) p.1) ps
    → history_of (pairs_of (ts ++ terms_in c) (ps ++ (key, brief_of (length ts) c) ∷ [])) ≡ history_of (pairs_of ts ps) ++ accepted key c ∷ []
pairs_next ts ps key c h =
    let all = ts ++ terms_in c in
    let b = brief_of (length ts) c in
    ap history_of (map-append (λ (p : List ℕ × Brief). (p.0, command_of all p.1)) ps ((key, b) ∷ []))
    ∙ history_push (pairs_of all ps) (key, command_of all b)
    ∙ ap (λ qs. history_of qs ++ accepted key (command_of all b) ∷ []) (pairs_more ts (terms_in c) ps h)
    ∙ ap (λ (x : Command). history_of (pairs_of ts ps) ++ accepted key x ∷ []) (stands_for ts c)

pub within_next : (ts new : List Terms) (ps : List (List ℕ × Brief)) (key : List ℕ) (c : Command) → new ≡ ts ++ terms_in c → All (λ (p : List ℕ × Brief). StandsWithin (length ts) p.1) ps
    → All (λ (p : List ℕ × Brief). StandsWithin (length new) p.1) (ps ++ (key, brief_of (length ts) c) ∷ [])
within_next ts new ps key c is h =
    let count : length new ≡ length ts + length (terms_in c) = ap length is ∙ length-append ts (terms_in c) in
    let x : List ℕ × Brief = (key, brief_of (length ts) c) in
    All-push (λ (p : List ℕ × Brief). StandsWithin (length new) p.1) ps x (λ k d lt id place at. (let low = h k d lt id place at in omega (arith, low, count))) (stands_within (length ts) c (length new) (omega (arith, count)))

-- the command with a number
pub nth_some : (ps : List (List ℕ × Command)) (n : ℕ) (d : List ℕ × Command) → 1 ≤ n → n ≤ length ps → Some (accepted (get_or ps (n - 1) d).0 (get_or ps (n - 1) d).1) ≡ nth_accepted (history_of ps) n
nth_some [] n d some few = absurd (omega arith)
nth_some (p ∷ ps) zero d some few = absurd (omega arith)
nth_some (p ∷ ps) (suc zero) d some few = refl
nth_some (p ∷ ps) (suc (suc n)) d some few =
    let e : suc (suc n) - 1 ≡ suc n = omega arith in
    let e' : suc n - 1 ≡ n = omega arith in
    ap (λ i. Some (accepted (get_or (p ∷ ps) i d).0 (get_or (p ∷ ps) i d).1)) e
    ∙ sym (ap (λ i. Some (accepted (get_or ps i d).0 (get_or ps i d).1)) e')
    ∙ nth_some ps (suc n) d (omega arith) (omega arith)

pub nth_none : (ps : List (List ℕ × Command)) (n : ℕ) → length ps < n → nth_accepted (history_of ps) n ≡ None
nth_none ps zero lt = absurd (omega arith)
nth_none [] (suc n) lt = refl
nth_none (p ∷ ps) (suc zero) lt = absurd (omega arith)
nth_none (p ∷ ps) (suc (suc n)) lt = nth_none ps (suc n) (omega arith)

-- ---- what a key finds

pub known_of : (n : ℕ) (w : World) (h : List Accepted) (key : List ℕ) → known_from n w h key ≡ known_among h (replies_from n w h) key
unfolding known_from replies_from
known_of n w [] key = refl
known_of n w (a ∷ more) key =
    let rest = known_of (n + 1) (after (n + 1) w a.command) more key in
    ap (λ o. if is_key a.key key then Some (known_as a.command (reply_of (n + 1) w a.command)) else o) rest

pub replies_push : (n : ℕ) (w : World) (h : List Accepted) (a : Accepted) → replies_from n w (h ++ a ∷ []) ≡ replies_from n w h ++ reply_of (n + length h + 1) (world_from n w h) a.command ∷ []
unfolding replies_from world_from
replies_push n w [] a =
    let same : n + 1 ≡ n + 0 + 1 = omega arith in
    ap (λ k. reply_of k w a.command ∷ []) same
replies_push n w (x ∷ h) a =
    let next = after (n + 1) w x.command in
    let same : n + 1 + length h + 1 ≡ n + suc (length h) + 1 = omega arith in
    ap (λ rs. reply_of (n + 1) w x.command ∷ rs) (replies_push (n + 1) next h a ∙ ap (λ k. replies_from (n + 1) next h ++ reply_of k (world_from (n + 1) next h) a.command ∷ []) same)

-- one command more has the next reply
pub replies_next : (h : List Accepted) (a : Accepted) → replies_to (h ++ a ∷ []) ≡ replies_to h ++ next_reply h a.command ∷ []
replies_next h a =
    let same : 0 + length h + 1 ≡ length h + 1 = omega arith in
    replies_push 0 first_world h a ∙ ap (λ n. replies_to h ++ reply_of n (world h) a.command ∷ []) same

-- the command and the reply at the place of a key
pub known_at_place : (n : ℕ) (h : List Accepted) (rs : List Reply) (key : List ℕ) (m : ℕ) (a : Accepted) (r : Reply) → length rs ≡ length h → number_from n h key ≡ Some m → known_among h rs key ≡ Some (known_as (get_or h (m - n) a).command (get_or rs (m - n) r))
known_at_place n [] rs key m a r same found = absurd (cc)
known_at_place n (x ∷ h) [] key m a r same found = absurd (let e : 0 ≡ suc (length h) = same in omega arith)
known_at_place n (x ∷ h) (q ∷ rs) key m a r same found =
    elim (is_key x.key key) as (λ v. (if v then Some n else number_from (n + 1) h key) ≡ Some m → (if v then Some (known_as x.command q) else known_among h rs key) ≡ Some (known_as (get_or (x ∷ h) (m - n) a).command (get_or (q ∷ rs) (m - n) r))) [
      | true ↦ λ e.
          let is : n ≡ m = cc in
          let zero' : m - n ≡ 0 = omega arith in
          sym (ap (λ i. Some (known_as (get_or (x ∷ h) i a).command (get_or (q ∷ rs) i r))) zero')
      | false ↦ λ e.
          let above = number_above (n + 1) h key m e in
          let back : suc (m - (n + 1)) ≡ m - n = omega arith in
          known_at_place (n + 1) h rs key m a r (omega (arith, same)) e ∙ ap (λ i. Some (known_as (get_or (x ∷ h) i a).command (get_or (q ∷ rs) i r))) back
    ] found
  where
    number_above : (n : ℕ) (h : List Accepted) (key : List ℕ) (m : ℕ) → number_from n h key ≡ Some m → n ≤ m
    number_above n [] key m e = absurd (cc)
    number_above n (x ∷ h) key m e = elim (is_key x.key key) as (λ v. (if v then Some n else number_from (n + 1) h key) ≡ Some m → n ≤ m) [
      | true ↦ λ is. let same : n ≡ m = cc in omega arith
      | false ↦ λ is. let rest = number_above (n + 1) h key m is in omega arith
    ] e

pub known_nothing : (n : ℕ) (h : List Accepted) (rs : List Reply) (key : List ℕ) → number_from n h key ≡ None → known_among h rs key ≡ None
known_nothing n [] rs key found = refl
known_nothing n (x ∷ h) [] key found = refl
known_nothing n (x ∷ h) (q ∷ rs) key found =
    elim (is_key x.key key) as (λ v. (if v then Some n else number_from (n + 1) h key) ≡ None → (if v then Some (known_as x.command q) else known_among h rs key) ≡ None) [
      | true ↦ λ e. absurd (cc)
      | false ↦ λ e. known_nothing (n + 1) h rs key e
    ] found

-- the number under a key is that of a command
pub number_within : (n : ℕ) (h : List Accepted) (key : List ℕ) (m : ℕ) → number_from n h key ≡ Some m → (n ≤ m) × (m < n + length h)
number_within n [] key m e = absurd (cc)
number_within n (x ∷ h) key m e = elim (is_key x.key key) as (λ v. (if v then Some n else number_from (n + 1) h key) ≡ Some m → (n ≤ m) × (m < n + suc (length h))) [
  | true ↦ λ is. let same : n ≡ m = cc in (omega arith, omega arith)
  | false ↦ λ is. let rest = number_within (n + 1) h key m is in let low = rest.0 in let high = rest.1 in (omega arith, omega arith)
] e
