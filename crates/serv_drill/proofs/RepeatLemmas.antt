-- A command that is accepted is answered with the kept reply where it is submitted again, and no other one is: no two
-- commands have one key.
use Rattle.std.proofs.Common.{◌≡◌, ℕ, ◌+◌, ◌^◌, ◌<◌, List, [], ◌∷◌, ◌++◌, length, drop, arith, refl, ap, ◌∙◌, true, false, length-append}
use Rattle.std.specs.Prelude.{Bool, Option, Some, None, if◌then◌else◌}
use Rattle.std.proofs.lemmas.Bool.Decides.{Decides-eqb}
use Rattle.std.proofs.lemmas.Slice.Eq.{slice_eq-Decides}
use Rattle.std.proofs.lemmas.Fmt.{decimal_injective}
use Rattle.svc_types.specs.declared.requests.Command.{Command}
use Rattle.svc_types.specs.declared.replies.Reply.{Reply}
use Rattle.svc_types.specs.declared.replies.Refusal.{Refusal}
use Rattle.svc_types.specs.declared.replies.Refusal.TheVariants.{KeyReused}
use Rattle.svc_types.specs.Same.{is_same}
use Rattle.svc_types.proofs.SameLemmas.{decides_same}
use Rattle.svc_world.specs.World.{World, Accepted, accepted, first_world, after, world}
use Rattle.svc_world.specs.Refusals.{refusal_of}
use Rattle.svc_world.specs.Judging.{Kept, Refused, Fresh, Known, is_key, known_from, known, by_key, by_refusal, judged, history_after, reply_of}
use Rattle.serv_drill.specs.Works.{Work}
use Rattle.serv_drill.specs.Machine.{Tally, first_tally, key_of, submitted, is_kept, one_if, command_of, after_command, after_work, after_works}

-- ---- keys

same_key : (a b : List ℕ) → is_key a b ≡ true → a ≡ b
same_key a b h = (slice_eq-Decides Decides-eqb a b (is_key a b) refl).0 h

own_key : (a : List ℕ) → is_key a a ≡ true
own_key a = (slice_eq-Decides Decides-eqb a a (is_key a a) refl).1 refl

other_key : (m n : ℕ) → m < n → n < 2 ^ 64 → is_key (key_of m) (key_of n) ≡ false
other_key m n less fits = elim (is_key (key_of m) (key_of n)) as (λ v. is_key (key_of m) (key_of n) ≡ v → v ≡ false) [
  | true ↦ λ e.
      let texts = ap (drop 1) (same_key (key_of m) (key_of n) e) in
      let same : m ≡ n = decimal_injective m n (omega arith) fits texts in
      absurd (omega arith)
  | false ↦ λ e. refl
] refl

-- ---- one accepted command more

reply_at : ℕ → World → List Accepted → Accepted → Reply
reply_at n w [] a = reply_of (n + 1) w a.command
reply_at n w (x ∷ h) a = reply_at (n + 1) (after (n + 1) w x.command) h a

or_else : Option Known → Option Known → Option Known
or_else None o = o
or_else (Some k) o = Some k

known_as : Command → Reply → Known
known_as c r = record { command = c; reply = r }

known_push : (n : ℕ) (w : World) (h : List Accepted) (a : Accepted) (key : List ℕ) → known_from n w (h ++ a ∷ []) key ≡ or_else (known_from n w h key) (if is_key a.key key then Some (known_as a.command (reply_at n w h a)) else None)
unfolding known_from reply_at or_else known_as
known_push n w [] a key = refl
known_push n w (x ∷ h) a key =
    let w' = after (n + 1) w x.command in
    let own = known_as x.command (reply_of (n + 1) w x.command) in
    let last = if is_key a.key key then Some (known_as a.command (reply_at (n + 1) w' h a)) else None in
    elim (is_key x.key key) as (λ v. (if v then Some own else known_from (n + 1) w' (h ++ a ∷ []) key) ≡ or_else (if v then Some own else known_from (n + 1) w' h key) last) [ true ↦ refl | false ↦ known_push (n + 1) w' h a key ]

still_unknown : (h : List Accepted) (a : Accepted) (key : List ℕ) → known h key ≡ None → is_key a.key key ≡ false → known (h ++ a ∷ []) key ≡ None
unfolding or_else
still_unknown h a key none other =
    known_push 0 first_world h a key ∙ ap (λ o. or_else o (if is_key a.key key then Some (known_as a.command (reply_at 0 first_world h a)) else None)) none
    ∙ ap (λ v. if v then Some (known_as a.command (reply_at 0 first_world h a)) else None) other

-- the same command again has the kept reply
again : (h : List Accepted) (key : List ℕ) (c : Command) → known h key ≡ None → judged (h ++ accepted key c ∷ []) key c ≡ Kept (reply_at 0 first_world h (accepted key c))
unfolding or_else judged known_as
again h key c none =
    let a = accepted key c in
    let h' = h ++ a ∷ [] in
    let r = reply_at 0 first_world h a in
    let found : known h' key ≡ Some (known_as c r) =
    known_push 0 first_world h a key ∙ ap (λ o. or_else o (if is_key key key then Some (known_as c r) else None)) none
    ∙ ap (λ v. if v then Some (known_as c r) else None) (own_key key) in
    let same : is_same c c ≡ true = (decides_same c c).1 refl in
    ap (by_key h' c) found ∙ ap (λ v. if v then Kept r else Refused (KeyReused r.number)) same

-- ---- a tally

-- kept replies were given as many times as commands were accepted, and no key is known but those of the commands made
record IsRepeated (t : Tally) : Type 0 where
  repeats : t.repeats ≡ length t.history
  unknown : (k : ℕ) → t.made < k → k < 2 ^ 64 → known t.history (key_of k) ≡ None

module _ (t : Tally) (c : Command) (fits : t.made + 1 < 2 ^ 64) (is : IsRepeated t) where
  abbrev key : List ℕ
  key = key_of (t.made + 1)

  abbrev h : List Accepted
  h = t.history

  none : known h key ≡ None
  none = is.unknown (t.made + 1) (omega arith) fits

  -- where the two submissions are judged so, and leave this history
  repeated_by : (h' : List Accepted) (b b' : Bool) → submitted (submitted h key c) key c ≡ h' → is_kept (judged h key c) ≡ b → is_kept (judged (submitted h key c) key c) ≡ b'
      → t.repeats + one_if b + one_if b' ≡ length h' → ((k : ℕ) → t.made + 1 < k → k < 2 ^ 64 → known h' (key_of k) ≡ None) → IsRepeated (after_command t c)
  unfolding after_command
  repeated_by h' b b' history first second sum others = record {
    repeats = let p = ap one_if first in let q = ap one_if second in let n = ap length history in omega (arith, p, q, n, sum);
    unknown = λ k above small. ap (λ x. known x (key_of k)) history ∙ others k above small;
  }

  judged_by : (o : Option Refusal) → refusal_of (length h) (world h) c ≡ o → judged h key c ≡ by_refusal o
  unfolding judged
  judged_by o e = ap (by_key h c) none ∙ ap by_refusal e

  fresh : judged h key c ≡ Fresh → IsRepeated (after_command t c)
  unfolding submitted
  fresh j =
      let a = accepted key c in
      let h' = h ++ a ∷ [] in
      let once : submitted h key c ≡ h' = ap (history_after h key c) j in
      let kept = again h key c none in
      let twice : submitted h' key c ≡ h' = ap (history_after h' key c) kept in
      let one : length h' ≡ length h + 1 = length-append h (a ∷ []) in
      let sum = is.repeats in
      repeated_by h' false true (ap (λ x. submitted x key c) once ∙ twice) (ap is_kept j) (ap (λ x. is_kept (judged x key c)) once ∙ ap is_kept kept)
      (omega (arith, one, sum))
      (λ k above small. still_unknown h a (key_of k) (is.unknown k (omega arith) small) (other_key (t.made + 1) k above small))

  refused : (why : Refusal) → judged h key c ≡ Refused why → IsRepeated (after_command t c)
  unfolding submitted
  refused why j =
      let once : submitted h key c ≡ h = ap (history_after h key c) j in
      let sum = is.repeats in
      repeated_by h false false (ap (λ x. submitted x key c) once ∙ once) (ap is_kept j) (ap (λ x. is_kept (judged x key c)) once ∙ ap is_kept j)
      (omega (arith, sum))
      (λ k above small. is.unknown k (omega arith) small)

  by_rule : (o : Option Refusal) → refusal_of (length h) (world h) c ≡ o → IsRepeated (after_command t c)
  by_rule None e = fresh (judged_by None e)
  by_rule (Some why) e = refused why (judged_by (Some why) e)

  one_more : IsRepeated (after_command t c)
  one_more = by_rule (refusal_of (length h) (world h) c) refl

all_repeated : (t : Tally) (ws : List Work) → t.made + length ws < 2 ^ 64 → IsRepeated t → IsRepeated (after_works t ws)
unfolding after_works after_work after_command
all_repeated t [] fits is = is
all_repeated t (w ∷ ws) fits is =
    all_repeated (after_work t w) ws (omega arith) (one_more t (command_of t.history w) (omega arith) is)

first_repeated : IsRepeated first_tally
unfolding known_from
first_repeated = record { repeats = refl; unknown = λ k above small. refl }

pub repeats_of : (ws : List Work) → length ws < 2 ^ 64 → (after_works first_tally ws).repeats ≡ length (after_works first_tally ws).history
repeats_of ws fits = (all_repeated first_tally ws (omega arith) first_repeated).repeats
