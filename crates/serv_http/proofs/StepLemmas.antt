-- What a step of a connection does with the bytes of a piece.
use Rattle.std.proofs.Common.{◌≡◌, ℕ, ◌+◌, ◌-◌, ◌<◌, ◌≤◌, inl, inr, Bool, true, false, List, [], ◌∷◌, ◌++◌, length, take, drop, refl, sym, ap, ◌∙◌, subst, arith, append_assoc, length-append, length-take, length-drop, Option, Some, None}
use Rattle.std.specs.Prelude.{min, Result, Ok, Err, IfOk}
use Rattle.std.proofs.lemmas.Bool.{cases_lt}
use Rattle.std.proofs.lemmas.List.{take_at, take_all, drop_all, take-append-drop, take-take}
use Rattle.std.proofs.Math.Seq.{take-add}
use Rattle.serv_http.proofs.TargetLemmas.{shortest-reads-first}
use Rattle.httparse.specs.Grammar.{RequestHead, print_request}
use Rattle.httparse.specs.Grammar.{ReadsRequest, MayBecomeRequest, print_blank, print_version, print_end, print_section}
use Rattle.httparse.proofs.GrammarLemmas.{print_request-append}
use Rattle.serv_http.specs.declared.ask.Ask.{Ask}
use Rattle.serv_http.specs.declared.ask.Ask.TheVariants.{Post, Fault}
use Rattle.serv_http.specs.declared.ask.Due.{Due}
use Rattle.serv_http.specs.declared.ask.Plan.{Plan}
use Rattle.serv_http.specs.declared.ask.Plan.TheVariants.{Now, Pass, Keep}
use Rattle.serv_http.specs.declared.stage.Stage.{Stage}
use Rattle.serv_http.specs.declared.stage.Stage.TheVariants.{Heading, Passing, Keeping, Over}
use Rattle.serv_http.specs.declared.conn.Conn.{Conn}
use Rattle.serv_http.specs.declared.head_step.HeadStep.{HeadStep}
use Rattle.serv_http.specs.declared.head_step.HeadStep.TheVariants.{Asked, Waits}
use Rattle.serv_http.specs.Heads.{head_limit, line_after, from_request_line, after_lines, judged, HasHead, IsClosed, IsOpen, IsRefused, IsTooLong}
use Rattle.serv_http.specs.Judging.{IsWholeHead}
use Rattle.serv_http.specs.Stages.{is_ended}
use Rattle.serv_http.specs.Plans.{IsPlan}
use Rattle.serv_http.specs.Streams.{ask_of, ends, after_head, IsFirst, IsAwaited}
use Rattle.serv_http.specs.Conns.{IsHeading, IsPassing, IsKeeping, StandsAt, StandsFor, BegunAt, BegunFor, IsWhole, IsStep, IsHeadStep, stage_after}
use Rattle.serv_http.proofs.GrowthLemmas.{judged-open}
use Rattle.serv_http.proofs.HeadLemmas.{head-grows, after_head-grows, head-first}
use Rattle.serv_http.proofs.LimitLemmas.{head-in-limits}
use Rattle.serv_http.proofs.StreamLemmas.{first-grows, first-not-awaited}
use Rattle.serv_http.proofs.TargetLemmas.{meet}

stands-at-awaited : (c : Conn) (g : Stage) (s : List ℕ) → StandsAt c g s → IsAwaited s
stands-at-awaited c Heading s x = inl (x.going, x.may)
stands-at-awaited c (Passing left due) s x = inr (record {
  head = x.0.head;
  here = x.0.here;
  plan = Pass x.0.total due;
  planned = x.0.planned;
  lacks = omega (arith, x.0.count, x.1);
})
stands-at-awaited c (Keeping have need last) s x = inr (record {
  head = x.0.head;
  here = x.0.here;
  plan = Keep need last;
  planned = x.0.planned;
  lacks = omega (arith, x.0.count, x.1);
})
stands-at-awaited c Over s x = absurd x

pub stands-awaited : (c : Conn) (s : List ℕ) → StandsFor c s → IsAwaited s
stands-awaited c s x = stands-at-awaited c c.stage s x

going-at : (c : Conn) (g : Stage) (s : List ℕ) → StandsAt c g s → is_ended g ≡ false
going-at c Heading s x = refl
going-at c (Passing left due) s x = refl
going-at c (Keeping have need last) s x = refl
going-at c Over s x = absurd x

-- a connection that stands for bytes has not ended
pub stands-going : (c : Conn) (s : List ℕ) → StandsFor c s → is_ended c.stage ≡ false
stands-going c s x = going-at c c.stage s x

-- a body that is passed over
pub pass-more : (left : ℕ) (due : Due) (s piece : List ℕ) → IsPassing left due s → length piece < left
    → IsPassing (left - length piece) due (s ++ piece) × (0 < left - length piece)
pass-more left due s piece x l = (
  record {
    head = x.head;
    here = head-grows s piece x.head x.here;
    total = x.total;
    planned = x.planned;
    count = omega (arith, ap length (after_head-grows s piece x.head x.here), length-append (after_head s x.head) piece, x.count);
  },
  omega arith,
)

pub pass-whole : (left : ℕ) (due : Due) (s piece : List ℕ) → IsPassing left due s → left ≤ length piece
    → IsFirst (s ++ take left piece) (ask_of due) []
pass-whole left due s piece x l =
    let more : List ℕ = take left piece in
    let grown = after_head-grows s more x.head x.here in
    let size : length (after_head (s ++ more) x.head) ≡ x.total =
    omega (arith, ap length grown, length-append (after_head s x.head) more, length-take left piece, x.count) in
    inr (inr (record {
      head = x.head;
      here = head-grows s more x.head x.here;
      plan = Pass x.total due;
      planned = x.planned;
      whole = (omega arith, refl, sym (drop_all x.total (after_head (s ++ more) x.head) (omega arith)));
    }))

-- a command's body
pub keep-more : (room room' : List ℕ) (have need : ℕ) (last : Bool) (s piece : List ℕ) → IsKeeping room have need last s
    → have ≤ length room → room' ≡ take have room ++ piece ++ drop (have + length piece) room
    → IsKeeping room' (have + length piece) need last (s ++ piece)
keep-more room room' have need last s piece x l e =
    let grown = after_head-grows s piece x.head x.here in
    record {
      head = x.head;
      here = head-grows s piece x.head x.here;
      planned = x.planned;
      text = grown ∙ ap (λ (t : List ℕ). t ++ piece) x.text
          ∙ sym (ap (take (have + length piece)) e
          ∙ take_at (take have room ++ piece) (drop (have + length piece) room) (have + length piece)
          (omega (arith, length-append (take have room) piece, length-take have room)));
      count = omega (arith, ap length grown, length-append (after_head s x.head) piece, x.count);
    }

keep-whole : (room : List ℕ) (need : ℕ) (last : Bool) (s : List ℕ) → IsKeeping room need need last s
    → IsFirst s (Post (take need room) last) []
keep-whole room need last s x = inr (inr (record {
  head = x.head;
  here = x.here;
  plan = Keep need last;
  planned = x.planned;
  whole = (
    omega (arith, x.count),
    ap (λ (t : List ℕ). Post t last) (sym x.text ∙ sym (take_all need (after_head s x.head) (omega (arith, x.count)))),
    sym (drop_all need (after_head s x.head) (omega (arith, x.count))),
  );
}))

pub keep-ends : (room room' : List ℕ) (have need : ℕ) (last : Bool) (s piece : List ℕ) → IsKeeping room have need last s
    → have ≤ need → need ≤ length room → need - have ≤ length piece
    → room' ≡ take have room ++ take (need - have) piece ++ drop (have + length (take (need - have) piece)) room
    → IsFirst (s ++ take (need - have) piece) (Post (take need room') last) []
keep-ends room room' have need last s piece x a b l e =
    let more : List ℕ = take (need - have) piece in
    let size : have + length more ≡ need = omega (arith, length-take (need - have) piece) in
    let kept = keep-more room room' have need last s more x (omega arith) e in
    keep-whole room' need last (s ++ more) (subst (λ (n : ℕ). IsKeeping room' n need last (s ++ more)) size kept)

-- where a part of a piece completes a request, all of it does not wait
pub not-awaited : (s piece : List ℕ) (k : ℕ) (a : Ask) (t : List ℕ) → IsFirst (s ++ take k piece) a t → ¬ (IsAwaited (s ++ piece))
not-awaited s piece k a t first awaited =
    let cut : (s ++ take k piece) ++ drop k piece ≡ s ++ piece =
    append_assoc s (take k piece) (drop k piece) ∙ ap (λ (x : List ℕ). s ++ x) (take-append-drop k piece) in
    first-not-awaited (s ++ piece) a (t ++ drop k piece)
    (subst (λ (x : List ℕ). IsFirst x a (t ++ drop k piece)) cut (first-grows (s ++ take k piece) (drop k piece) a t first)) awaited

-- a head alone is a head
head-exact : (s : List ℕ) (h : RequestHead) → HasHead s h → length (print_request h) ≤ head_limit → HasHead (print_request h) h
head-exact s h x short = head-in-limits h x.reads.0 x.lines short

-- a head that the bytes before a piece do not have, and that the piece makes whole
pub head-whole : (s piece : List ℕ) (count len : ℕ) (h : RequestHead) → ¬ (IsClosed s) → IsOpen s
    → length s + count ≤ head_limit → HasHead (s ++ take count piece) h
    → len ≡ length (print_request h) → count ≤ length piece
    → (len - length s ≤ length piece) × IsWhole (s ++ take (len - length s) piece) h
head-whole s piece count len h going may short x e l =
    elim (meet (print_request h) (after_head (s ++ take count piece) h) s (take count piece)
    (sym (head-first (s ++ take count piece) h x))) [
      | inl a ↦ absurd (may.none h a.0 (x.reads.0, (judged-open s [] going).0 ∙ a.1))
      | inr b ↦
          let size : length b.0 ≡ len - length s = omega (arith, ap length b.1, length-append s b.0) in
          let fits : length b.0 ≤ count =
          omega (arith, ap length b.2, length-append b.0 (after_head (s ++ take count piece) h), length-take count piece) in
          let front : take (length b.0) piece ≡ b.0 =
          sym (take-take (length b.0) count piece fits) ∙ ap (take (length b.0)) b.2
          ∙ take_at b.0 (after_head (s ++ take count piece) h) (length b.0) refl in
          let whole : s ++ take (len - length s) piece ≡ print_request h =
          ap (λ (n : ℕ). s ++ take n piece) (sym size) ∙ ap (λ (t : List ℕ). s ++ t) front ∙ sym b.1 in
          let head = head-exact (s ++ take count piece) h x (omega (arith, ap length b.1, length-append s b.0)) in (
            omega arith,
            record {
              here = subst (λ (t : List ℕ). HasHead t h) (sym whole) head;
              alone = ap (λ (t : List ℕ). after_head t h) whole ∙ drop_all (length (print_request h)) (print_request h) (omega arith);
            },
          )
    ]

pub whole-now : (s : List ℕ) (h : RequestHead) (due : Due) → IsWhole s h → IsPlan h (Now due) → IsFirst s (ask_of due) []
whole-now s h due x p =
    inr (inr (record { head = h; here = x.here; plan = Now due; planned = p; whole = (refl, sym x.alone) }))

pub whole-pass : (s : List ℕ) (h : RequestHead) (n : ℕ) (due : Due) → IsWhole s h → IsPlan h (Pass n due) → IsPassing n due s
whole-pass s h n due x p =
    record { head = h; here = x.here; total = n; planned = p; count = omega (arith, ap length x.alone) }

-- where the head may go on, all of the piece was added
pub all-added : (s piece : List ℕ) (filled count : ℕ) → length s ≡ filled → filled < head_limit
    → count ≡ min (length piece) (head_limit - filled) → ¬ (IsClosed (s ++ take count piece))
    → (filled + count < head_limit) × (take count piece ≡ piece)
all-added s piece filled count size room is going =
    elim (cases_lt (filled + count) head_limit) [
      | inl l ↦ (l, take_all count piece (omega arith))
      | inr g ↦ absurd (going (inl (omega (arith, length-append s (take count piece), length-take count piece))))
    ]

-- a request that so many bytes of a piece completed
pub step-asked : (s piece : List ℕ) (c : Conn) (used : ℕ) (a b : Ask) (last : Bool) → used ≤ length piece
    → IsFirst (s ++ take used piece) a [] → b ≡ a → last ≡ ends a → c.stage ≡ stage_after last → c.filled ≡ 0
    → IsStep s piece c used (Some b)
step-asked s piece c used a b last l first e g stage filled = (
  l,
  (
    [],
    subst (λ (x : Ask). IsFirst (s ++ take used piece) x []) (sym e) first,
    stage ∙ ap stage_after (g ∙ ap ends (sym e)),
    filled,
    λ _. refl,
  ),
)

-- a fault of a head
pub step-fault : (s piece : List ℕ) (c : Conn) (used status : ℕ) → used ≤ length piece
    → IsFirst (s ++ take used piece) (Fault status true None) (s ++ take used piece) → c.stage ≡ Over → c.filled ≡ 0
    → IsStep s piece c used (Some (Fault status true None))
step-fault s piece c used status l first stage filled = (l, (s ++ take used piece, first, stage, filled, λ e. absurd (cc e)))

pub begun-keeping : (c : Conn) (have need : ℕ) (last : Bool) (s : List ℕ) → c.stage ≡ Keeping have need last → BegunFor c s
    → IsKeeping c.body have need last s
begun-keeping c have need last s e x = subst (λ (g : Stage). BegunAt c g s) e x

stands-begun-at : (c : Conn) (g : Stage) (s : List ℕ) → (g ≡ Heading → ⊥) → StandsAt c g s → BegunAt c g s
stands-begun-at c Heading s other x = absurd (other refl)
stands-begun-at c (Passing left due) s other x = x.0
stands-begun-at c (Keeping have need last) s other x = x.0
stands-begun-at c Over s other x = absurd x

pub stands-begun : (c : Conn) (s : List ℕ) → (c.stage ≡ Heading → ⊥) → StandsFor c s → BegunFor c s
stands-begun c s other x = stands-begun-at c c.stage s other x

pub stands-heading : (c : Conn) (s : List ℕ) → c.stage ≡ Heading → IsHeading c s → StandsFor c s
stands-heading c s e x = subst (λ (g : Stage). StandsAt c g s) (sym e) x

pub heading-stands : (c : Conn) (s : List ℕ) → c.stage ≡ Heading → StandsFor c s → IsHeading c s
heading-stands c s e x = subst (λ (g : Stage). StandsAt c g s) e x

-- the place in a piece, seen from its start
pub step-shift : (s piece : List ℕ) (c : Conn) (used more : ℕ) (a : Option Ask) → used ≤ length piece
    → IsStep (s ++ take used piece) (drop used piece) c more a → IsStep s piece c (used + more) a
step-shift s piece c used more None l x = (
  omega (arith, x.0, length-drop used piece),
  subst (λ (t : List ℕ). StandsFor c t)
      (append_assoc s (take used piece) (drop used piece) ∙ ap (λ (t : List ℕ). s ++ t) (take-append-drop used piece)) x.1,
)
step-shift s piece c used more (Some a) l x = (
  omega (arith, x.0, length-drop used piece),
  (
    x.1.0,
    subst (λ (t : List ℕ). IsFirst t a x.1.0)
        (append_assoc s (take used piece) (take more (drop used piece)) ∙ ap (λ (t : List ℕ). s ++ t) (sym (take-add used more piece))) x.1.1,
    x.1.2,
    x.1.3,
    x.1.4,
  ),
)

-- the head of a connection that waits for more of it
pub heading-length : (c : Conn) (s : List ℕ) → length c.head ≡ 8192 → c.filled < 8192 → s ≡ take c.filled c.head → length s ≡ c.filled
heading-length c s room small e = omega (arith, ap length e, length-take c.filled c.head)

nothing-looked : judged [] ≡ []
unfolding line_after from_request_line after_lines
nothing-looked = refl

-- nothing is awaited as the first byte of a head
pub nothing-more : ¬ (IsClosed [])
unfolding line_after from_request_line after_lines
nothing-more (inl l) = absurd (omega arith)
nothing-more (inr e) = absurd (cc e)

no-head : (h : RequestHead) (rest : List ℕ) → ¬ (ReadsRequest [] h rest)
no-head h rest reads =
    let e : [] ≡ print_blank h.blank ++ (h.method ++ 32 ∷ (h.target ++ 32 ∷ (print_version h.minor
    ++ (print_end h.line_end ++ (print_section h.fields h.last ++ rest))))) = reads.1 ∙ print_request-append h rest in
    absurd (omega (
      arith,
      ap length e,
      length-append (print_blank h.blank) (h.method ++ 32 ∷ (h.target ++ 32 ∷ (print_version h.minor
          ++ (print_end h.line_end ++ (print_section h.fields h.last ++ rest))))),
      length-append h.method (32 ∷ (h.target ++ 32 ∷ (print_version h.minor
          ++ (print_end h.line_end ++ (print_section h.fields h.last ++ rest))))),
    ))

pub nothing-open : IsOpen []
nothing-open = record {
  none = λ h rest. subst (λ (t : List ℕ). ¬ (ReadsRequest t h rest)) (sym nothing-looked) (no-head h rest);
  may = subst MayBecomeRequest (sym nothing-looked) (inl shortest-reads-first);
}

pub ok-map : {A E : Type 0} (r : Result A E) {P Q : A → Type 0} → ((a : A) → P a → Q a) → IfOk r P → IfOk r Q
ok-map (Ok a) step h = step a h
ok-map (Err e) step h = tt

-- the room of the head, after what fits of a piece was added
pub record IsFilled (s piece : List ℕ) (old new : Conn) (count : ℕ) (front : List ℕ) : Type 0 where
  pub heading : IsHeading old s
  pub size : length s ≡ old.filled
  pub small : old.filled < 8192
  pub added : count ≡ min (length piece) (8192 - old.filled)
  pub front_is : front ≡ s ++ take count piece

pub filled-refused : (s piece front : List ℕ) (old new d : Conn) (count : ℕ) (r : HeadStep) → IsFilled s piece old new count front
    → IsRefused front → r ≡ Asked count (Fault 400 true None) → d.stage ≡ Over → d.filled ≡ 0 → IsHeadStep s piece d r
filled-refused s piece front old new d count r x refused e over zero =
    subst (λ (h : HeadStep). IsHeadStep s piece d h) (sym e)
    (step-fault s piece d count 400 (omega (arith, x.added))
    (inl (subst IsRefused x.front_is refused, refl, refl)) over zero)

pub filled-long : (s piece front : List ℕ) (old new d : Conn) (count : ℕ) (r : HeadStep) → IsFilled s piece old new count front
    → IsTooLong front → r ≡ Asked count (Fault 431 true None) → d.stage ≡ Over → d.filled ≡ 0 → IsHeadStep s piece d r
filled-long s piece front old new d count r x long e over zero =
    subst (λ (h : HeadStep). IsHeadStep s piece d h) (sym e)
    (step-fault s piece d count 431 (omega (arith, x.added))
    (inr (inl (subst (λ (t : List ℕ). IsTooLong t) x.front_is long, refl, refl))) over zero)

pub filled-waits : (s piece front : List ℕ) (old new d : Conn) (count : ℕ) (r : HeadStep) → IsFilled s piece old new count front
    → ¬ (IsClosed front) → IsOpen front → r ≡ Waits → d.stage ≡ Heading
    → (old.filled + count < 8192 → d.filled ≡ old.filled + count) → front ≡ take (old.filled + count) d.head → IsHeadStep s piece d r
filled-waits s piece front old new d count r x going may e stage filled text =
    let open_front = subst (λ (t : List ℕ). ¬ (IsClosed t)) x.front_is going in
    let all = all-added s piece old.filled count x.size x.small x.added open_front in
    let whole : front ≡ s ++ piece = x.front_is ∙ ap (λ (t : List ℕ). s ++ t) all.1 in
    subst (λ (h : HeadStep). IsHeadStep s piece d h) (sym e)
    (stands-heading d (s ++ piece) stage (record {
      text = sym whole ∙ text ∙ ap (λ (n : ℕ). take n d.head) (sym (filled all.0));
      going = subst (λ (t : List ℕ). ¬ (IsClosed t)) whole going;
      may = subst IsOpen whole may;
    }))

-- a piece that makes a head whole
pub record IsHeadWhole (s piece : List ℕ) (used : ℕ) (plan : Plan) : Type 0 where
  pub head : RequestHead
  pub whole : IsWhole (s ++ take used piece) head
  pub planned : IsPlan head plan
  pub fits : used ≤ length piece

pub filled-whole : (s piece front : List ℕ) (old new : Conn) (count len used : ℕ) (plan : Plan) → IsFilled s piece old new count front
    → IsWholeHead front len plan → used ≡ len - old.filled → IsHeadWhole s piece used plan
filled-whole s piece front old new count len used plan x w e =
    let here : HasHead (s ++ take count piece) w.head = subst (λ (t : List ℕ). HasHead t w.head) x.front_is w.here in
    let h = head-whole s piece count len w.head x.heading.going x.heading.may (omega (arith, x.size, x.small, x.added)) here w.size
    (omega (arith, x.added)) in
    let same : len - length s ≡ used = omega (arith, x.size, e) in
    record {
      head = w.head;
      whole = subst (λ (n : ℕ). IsWhole (s ++ take n piece) w.head) same h.1;
      planned = w.planned;
      fits = omega (arith, h.0, same);
    }
