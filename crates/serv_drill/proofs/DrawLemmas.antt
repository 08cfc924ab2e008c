-- States of the draws.
use Rattle.std.proofs.Common.{◌≡◌, ℕ, zero, suc, ◌+◌, ◌*◌, arith, refl, sym, ap, ◌∙◌, add-one, add-zero}
use Rattle.serv_drill.specs.Draws.{next_state, state_after}
use Rattle.serv_drill.specs.Works.{state_at}

pub state_next : (x k : ℕ) → state_after x (k + 1) ≡ next_state (state_after x k)
unfolding state_after
state_next x k = rw add-one refl

pub state_twice : (x a b : ℕ) → state_after (state_after x a) b ≡ state_after x (a + b)
unfolding state_after
state_twice x a zero = rw add-zero refl
state_twice x a (suc b) =
    let e : a + suc b ≡ suc (a + b) = omega arith in
    ap next_state (state_twice x a b) ∙ sym (ap (state_after x) e)

-- the draws of a month begin where those of the month before end
pub state_at_more : (loans number j : ℕ) → state_after (state_at loans number j) loans ≡ state_at loans number (j + 1)
state_at_more loans number j =
    let e : j * loans + loans ≡ (j + 1) * loans = omega arith in
    state_twice number (j * loans) loans ∙ ap (state_after number) e

pub state_at_first : (loans number : ℕ) → state_at loans number 0 ≡ number
unfolding state_after
state_at_first loans number = let e : 0 * loans ≡ 0 = omega arith in ap (state_after number) e
