-- A piece taken step by step.
use Rattle.std.proofs.Common.{◌≡◌, ℕ, zero, suc, ◌+◌, ◌-◌, ◌<◌, ◌≤◌, inl, inr, Bool, true, false, List, [], ◌∷◌, ◌++◌, length, take, drop, cond, not, refl, sym, ap, ◌∙◌, subst, arith, append_assoc, append-nil, length-take, length-drop, Option, Some, None}
use Rattle.std.proofs.lemmas.Bool.{cond-true}
use Rattle.std.proofs.lemmas.List.{take_all, take_rest, take-append-drop}
use Rattle.std.proofs.Math.Seq.{take-add}
use Rattle.serv_http.specs.declared.ask.Ask.{Ask}
use Rattle.serv_http.specs.declared.stage.Stage.TheVariants.{Heading}
use Rattle.serv_http.specs.declared.conn.Conn.{Conn}
use Rattle.serv_http.specs.Stages.{is_ended}
use Rattle.serv_http.specs.Streams.{ends, IsFirst, IsAwaited, AsksTo}
use Rattle.serv_http.specs.Conns.{StandsFor, IsFed, IsStep, is_over, stage_after}
use Rattle.serv_http.proofs.StreamLemmas.{first-grows, first-not-awaited, asks-grow, asks-over}
use Rattle.serv_http.proofs.StepLemmas.{stands-awaited, stands-heading, not-awaited, nothing-more, nothing-open}

-- so many bytes of a piece were taken, in so many steps
pub record IsSoFar (piece : List ℕ) (at count : ℕ) (asks : List Ask) (c : Conn) (s : List ℕ) : Type 0 where
  pub left : List ℕ
  pub asked : AsksTo (s ++ take at piece) asks (Some left)
  pub stands : StandsFor c left
  pub enough : count ≤ at

-- the bytes before a place and those after it
parted : (s piece : List ℕ) (at : ℕ) → (s ++ take at piece) ++ drop at piece ≡ s ++ piece
parted s piece at =
    append_assoc s (take at piece) (drop at piece) ∙ ap (λ (t : List ℕ). s ++ t) (take-append-drop at piece)

parted-more : (s piece : List ℕ) (at used : ℕ) → (s ++ take at piece) ++ take used (drop at piece) ≡ s ++ take (at + used) piece
parted-more s piece at used =
    append_assoc s (take at piece) (take used (drop at piece)) ∙ ap (λ (t : List ℕ). s ++ t) (sym (take-add at used piece))

awaited-nothing : IsAwaited []
awaited-nothing = inl (nothing-more, nothing-open)

stands-nothing : (c : Conn) → c.stage ≡ Heading → c.filled ≡ 0 → StandsFor c []
stands-nothing c stage filled = stands-heading c [] stage (record {
  text = ap (λ (n : ℕ). take n c.head) (sym filled);
  going = nothing-more;
  may = nothing-open;
})

pub so-far-start : (c : Conn) (s piece : List ℕ) → StandsFor c s → IsSoFar piece 0 0 [] c s
so-far-start c s piece x = record {
  left = s;
  asked = (subst (λ (t : List ℕ). IsAwaited t) (sym (append-nil s)) (stands-awaited c s x), ap Some (sym (append-nil s)));
  stands = x;
  enough = omega arith;
}

pub so-far-none : (piece : List ℕ) (at count used : ℕ) (asks : List Ask) (c d : Conn) (s : List ℕ) (x : IsSoFar piece at count asks c s)
    → IsStep x.left (drop at piece) d used None → IsFed (s ++ piece) asks d
so-far-none piece at count used asks c d s x step = (
  Some (x.left ++ drop at piece),
  subst (λ (t : List ℕ). AsksTo t asks (Some (x.left ++ drop at piece))) (parted s piece at)
      (subst (λ (l : List Ask). AsksTo ((s ++ take at piece) ++ drop at piece) l (Some (x.left ++ drop at piece))) (append-nil asks)
      (asks-grow asks [] (s ++ take at piece) x.left (drop at piece) (Some (x.left ++ drop at piece)) x.asked
      (stands-awaited d (x.left ++ drop at piece) step.1, refl))),
  step.1,
)

pub so-far-all : (piece : List ℕ) (at count : ℕ) (asks : List Ask) (c : Conn) (s : List ℕ) → IsSoFar piece at count asks c s
    → length piece ≤ at → IsFed (s ++ piece) asks c
so-far-all piece at count asks c s x l = (
  Some x.left,
  subst (λ (t : List ℕ). AsksTo (s ++ t) asks (Some x.left)) (take_all at piece l) x.asked,
  x.stands,
)

-- whether the connection ends is what the request says
ends-from : (d : Conn) (a : Ask) (b : Bool) → d.stage ≡ stage_after (ends a) → is_over d ≡ b → ends a ≡ b
ends-from d a b stage over = ended (ends a) (ap is_ended (sym stage) ∙ over)
  where
    ended : (e : Bool) → is_ended (stage_after e) ≡ b → e ≡ b
    ended true h = h
    ended false h = h

pub so-far-over : (piece : List ℕ) (at count used : ℕ) (asks : List Ask) (a : Ask) (c d : Conn) (s : List ℕ) (x : IsSoFar piece at count asks c s)
    → IsStep x.left (drop at piece) d used (Some a) → is_over d ≡ true → IsFed (s ++ piece) (asks ++ a ∷ []) d
so-far-over piece at count used asks a c d s x (l, (t, first, stage, filled, none)) over =
    let last = ends-from d a true stage over in
    let here : AsksTo ((s ++ take at piece) ++ take used (drop at piece)) (asks ++ a ∷ []) None =
    asks-grow asks (a ∷ []) (s ++ take at piece) x.left (take used (drop at piece)) None x.asked (t, first, inl (last, refl, refl)) in
    let whole : ((s ++ take at piece) ++ take used (drop at piece)) ++ drop used (drop at piece) ≡ s ++ piece =
    parted (s ++ take at piece) (drop at piece) used ∙ parted s piece at in (
      None,
      subst (λ (y : List ℕ). AsksTo y (asks ++ a ∷ []) None) whole
          (asks-over (asks ++ a ∷ []) ((s ++ take at piece) ++ take used (drop at piece)) (drop used (drop at piece)) here),
      over,
    )

-- a request needs a byte
some-used : (piece : List ℕ) (used : ℕ) (a : Ask) (c : Conn) (left t : List ℕ) → StandsFor c left → IsFirst (left ++ take used piece) a t → 0 < used
some-used piece zero a c left t stands first =
    absurd (first-not-awaited left a t (subst (λ (y : List ℕ). IsFirst y a t) (append-nil left) first) (stands-awaited c left stands))
some-used piece (suc n) a c left t stands first = omega arith

pub so-far-more : (piece : List ℕ) (at count used : ℕ) (asks : List Ask) (a : Ask) (c d : Conn) (s : List ℕ) (x : IsSoFar piece at count asks c s)
    → IsStep x.left (drop at piece) d used (Some a) → is_over d ≡ false → IsSoFar piece (at + used) (count + 1) (asks ++ a ∷ []) d s
so-far-more piece at count used asks a c d s x (l, (t, first, stage, filled, none)) over =
    let going = ends-from d a false stage over in
    let rest : AsksTo t [] (Some []) = subst (λ (y : List ℕ). AsksTo y [] (Some [])) (sym (none going)) (awaited-nothing, refl) in
    record {
      left = [];
      asked = subst (λ (y : List ℕ). AsksTo y (asks ++ a ∷ []) (Some [])) (parted-more s piece at used)
          (asks-grow asks (a ∷ []) (s ++ take at piece) x.left (take used (drop at piece)) (Some []) x.asked (t, first, inr (going, rest)));
      stands = stands-nothing d (stage ∙ ap stage_after going) filled;
      enough = omega (arith, x.enough, some-used (drop at piece) used a c x.left t x.stands first);
    }

pub so-far-err : (piece : List ℕ) (at count : ℕ) (asks : List Ask) (c : Conn) (s : List ℕ) (x : IsSoFar piece at count asks c s)
    → ¬ (IsAwaited (x.left ++ drop at piece)) → ¬ (IsAwaited (s ++ piece))
so-far-err piece at count asks c s x none awaited = by asks x.asked
  where
    by : (l : List Ask) → AsksTo (s ++ take at piece) l (Some x.left) → ⊥
    by [] y =
        let e : x.left ≡ s ++ take at piece = (let z = y.1 in cc) in
        none (subst (λ (t : List ℕ). IsAwaited t) (sym (ap (λ (t : List ℕ). t ++ drop at piece) e ∙ parted s piece at)) awaited)
    by (a ∷ l) y =
        first-not-awaited (s ++ piece) a (y.0 ++ drop at piece)
        (subst (λ (t : List ℕ). IsFirst t a (y.0 ++ drop at piece)) (parted s piece at)
        (first-grows (s ++ take at piece) (drop at piece) a y.0 y.1)) awaited

pub so-far-push : (piece : List ℕ) (at count used : ℕ) (asks : List Ask) (a : Ask) (c d : Conn) (s : List ℕ) (x : IsSoFar piece at count asks c s)
    → IsStep x.left (drop at piece) d used (Some a) → ¬ (IsAwaited (s ++ piece))
so-far-push piece at count used asks a c d s x step =
    so-far-err piece at count asks c s x (not-awaited x.left (drop at piece) used a step.1.0 step.1.1)

pub fed-quiet : (s : List ℕ) (asks : List Ask) (c : Conn) → IsFed s asks c → IsAwaited s → asks ≡ []
fed-quiet s [] c x awaited = refl
fed-quiet s (a ∷ asks) c x awaited = absurd (first-not-awaited s a x.1.0 x.1.1 awaited)

-- the slice of a piece from a place on
pub step-at : (s piece : List ℕ) (at used : ℕ) (c : Conn) (o p : Option Ask) → o ≡ p
    → IsStep s (take (length piece - at) (drop at piece)) c used o → IsStep s (drop at piece) c used p
step-at s piece at used c o p e x =
    subst (λ (q : Option Ask). IsStep s (drop at piece) c used q) e
    (subst (λ (t : List ℕ). IsStep s t c used o) (take_rest piece at) x)

pub awaited-at : (s piece : List ℕ) (at : ℕ) → ¬ (IsAwaited (s ++ take (length piece - at) (drop at piece))) → ¬ (IsAwaited (s ++ drop at piece))
awaited-at s piece at x = subst (λ (t : List ℕ). ¬ (IsAwaited (s ++ t))) (take_rest piece at) x

pub within-at : (piece : List ℕ) (at used : ℕ) → at ≤ length piece → used ≤ length (take (length piece - at) (drop at piece)) → at + used ≤ length piece
within-at piece at used l u = omega (arith, length-take (length piece - at) (drop at piece), length-drop at piece)

pub pushed-ok : (b e : Bool) (new more old : List Ask) → new ≡ cond b more old → b ≡ not e → e ≡ false → new ≡ more
pushed-ok b e new more old x y z = x ∙ cond-true b more old (y ∙ ap not z)
