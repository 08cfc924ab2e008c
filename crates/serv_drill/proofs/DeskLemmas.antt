-- One command, submitted twice.
use Rattle.std.proofs.Common.{◌≡◌, ℕ, ◌+◌, ◌≤◌, List, [], ◌∷◌, arith, refl, ap, ◌∙◌}
use Rattle.std.specs.Prelude.{Bool, true, false, ℤ, ◌+ℤ◌}
use mir.Val.{bool_byte}
use Rattle.svc_types.specs.declared.requests.Command.{Command}
use Rattle.svc_world.specs.World.{Accepted}
use Rattle.svc_world.specs.Judging.{judged}
use Rattle.svc_core.specs.Bound.{step_bound}
use Rattle.serv_drill.specs.Works.{Do}
use Rattle.serv_drill.specs.Machine.{Tally, key_of, submitted, is_kept, one_if, net_by, after_command, after_work, after_works, cost_of_command, cost_of_work, cost_of_works}

same_tally : (m m' : ℕ) (h h' : List Accepted) (r r' : ℕ) (z z' : ℤ) → m ≡ m' → h ≡ h' → r ≡ r' → z ≡ z' → (let x : Tally = record { made = m; history = h; repeats = r; remitted = z } in let y : Tally = record { made = m'; history = h'; repeats = r'; remitted = z' } in x ≡ y)
same_tally m m' h h' r r' z z' a b c d = cc

pub byte_is : (b : Bool) → bool_byte b ≡ one_if b
byte_is true = refl
byte_is false = refl

module _ (t : Tally) (c : Command) (key : List ℕ) (h1 : List Accepted) (key_is : key ≡ key_of (t.made + 1)) (once : h1 ≡ submitted t.history key c) where
  abbrev key' : List ℕ
  key' = key_of (t.made + 1)

  abbrev first : List Accepted
  first = submitted t.history key' c

  once' : h1 ≡ first
  once' = once ∙ ap (λ k. submitted t.history k c) key_is

  pub performed : (h2 : List Accepted) (k1 k2 : Bool) (r : ℕ) (net z : ℤ) → h2 ≡ submitted h1 key c → k1 ≡ is_kept (judged t.history key c) → k2 ≡ is_kept (judged h1 key c) → r ≡ t.repeats + (one_if k1 + one_if k2)
      → net ≡ net_by t.history c (judged t.history key c) → z ≡ t.remitted +ℤ net → (let s : Tally = record { made = t.made + 1; history = h2; repeats = r; remitted = z } in s ≡ after_works t (Do c ∷ []))
  unfolding after_works after_work after_command
  performed h2 k1 k2 r net z twice kept kept' repeats net_is sum =
      let p1 : one_if k1 ≡ one_if (is_kept (judged t.history key' c)) = ap one_if (kept ∙ ap (λ k. is_kept (judged t.history k c)) key_is) in
      let p2 : one_if k2 ≡ one_if (is_kept (judged first key' c)) = ap one_if (kept' ∙ ap (λ k. is_kept (judged h1 k c)) key_is ∙ ap (λ h. is_kept (judged h key' c)) once') in
      same_tally _ _ _ _ _ _ _ _ refl
      (twice ∙ ap (λ k. submitted h1 k c) key_is ∙ ap (λ h. submitted h key' c) once')
      (omega (arith, repeats, p1, p2))
      (sum ∙ ap (λ y. t.remitted +ℤ y) (net_is ∙ ap (λ k. net_by t.history c (judged t.history k c)) key_is))

  pub performed_cost : (n n1 n2 : ℕ) → n1 ≤ n + step_bound t.history key c → n2 ≤ n1 + step_bound h1 key c → n2 ≤ n + cost_of_works t (Do c ∷ [])
  unfolding cost_of_works cost_of_work cost_of_command
  performed_cost n n1 n2 a b =
      let p1 = ap (λ k. step_bound t.history k c) key_is in
      let p2 = ap (λ k. step_bound h1 k c) key_is ∙ ap (λ h. step_bound h key' c) once' in
      omega (arith, p1, p2, a, b)

pub begun_cost : (t : Tally) (c : Command) (key : List ℕ) (n n1 : ℕ) → key ≡ key_of (t.made + 1) → n1 ≤ n + step_bound t.history key c → n1 ≤ n + cost_of_works t (Do c ∷ [])
unfolding cost_of_works cost_of_work cost_of_command
begun_cost t c key n n1 key_is a =
    let p1 = ap (λ k. step_bound t.history k c) key_is in
    omega (arith, p1, a)
