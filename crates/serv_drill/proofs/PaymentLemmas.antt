-- The last payment of a loan among the first commands of a history, and one command more.
use Rattle.std.proofs.Common.{◌≡◌, ℕ, zero, suc, ◌+◌, ◌<◌, List, [], ◌∷◌, ◌++◌, length, take, arith, refl, sym, ap, ◌∙◌, add-one, true, false}
use Rattle.std.specs.Prelude.{if◌then◌else◌, ◌==◌, slice_get, Bool}
use Rattle.svc_world.specs.World.{Accepted, accepted}
use Rattle.svc_world.specs.Judging.{nth_accepted, reply_of, next_reply}
use Rattle.serv_drill.specs.Works.{payment}
use Rattle.std.proofs.lemmas.Bool.Decides.{nat_tests}
use Rattle.serv_drill.specs.Payments.{is_payment_of, is_payment_at, last_from, last_payment}

last_at : (loan k found : ℕ) (h : List Accepted) (n : ℕ) → n < length h → last_from loan k (take (suc n) h) found ≡ (if is_payment_at loan (slice_get h n) then k + suc n else last_from loan k (take n h) found)
unfolding last_from
last_at loan k found [] n below = absurd (omega arith)
last_at loan k found (a ∷ more) zero below = refl
last_at loan k found (a ∷ more) (suc n) below =
    let next = if is_payment_of loan a.command then k + 1 else found in
    let rest = last_at loan (k + 1) next more n (omega arith) in
    let place : k + 1 + suc n ≡ k + suc (suc n) = omega arith in
    rest ∙ ap (λ m. if is_payment_at loan (slice_get more n) then m else last_from loan (k + 1) (take n more) next) place

-- the last of the first commands is a payment, or the last payment stands before it
tested : (loan n : ℕ) (h : List Accepted) (b : Bool) → n < length h → is_payment_at loan (nth_accepted h (n + 1)) ≡ b → last_payment loan (take (n + 1) h) ≡ (if b then 0 + suc n else last_payment loan (take n h))
tested loan n h b below is =
    let at : is_payment_at loan (slice_get h n) ≡ b = sym (ap (λ m. is_payment_at loan (nth_accepted h m)) (add-one n)) ∙ is in
    ap (λ m. last_payment loan (take m h)) (add-one n) ∙ last_at loan 0 0 h n below ∙ ap (λ v. if v then 0 + suc n else last_payment loan (take n h)) at

pub last_is : (loan n : ℕ) (h : List Accepted) → n < length h → is_payment_at loan (nth_accepted h (n + 1)) ≡ true → last_payment loan (take (n + 1) h) ≡ n + 1
last_is loan n h below is = let e = tested loan n h true below is in omega (arith, e)

pub last_before : (loan n : ℕ) (h : List Accepted) → n < length h → is_payment_at loan (nth_accepted h (n + 1)) ≡ false → last_payment loan (take (n + 1) h) ≡ last_payment loan (take n h)
last_before loan n h below is = tested loan n h false below is

-- one command more is the last payment, or changes nothing of it
pub last_push : (loan k : ℕ) (h : List Accepted) (a : Accepted) (found : ℕ) → last_from loan k (h ++ a ∷ []) found ≡ (if is_payment_of loan a.command then k + length h + 1 else last_from loan k h found)
unfolding last_from
last_push loan k [] a found =
    let same : k + 0 + 1 ≡ k + 1 = omega arith in
    ap (λ m. if is_payment_of loan a.command then m else found) (sym same)
last_push loan k (x ∷ h) a found =
    let next = if is_payment_of loan x.command then k + 1 else found in
    let rest = last_push loan (k + 1) h a next in
    let place : k + 1 + length h + 1 ≡ k + length (x ∷ h) + 1 = omega arith in
    rest ∙ ap (λ m. if is_payment_of loan a.command then m else last_from loan (k + 1) h next) place

own_loan : (loan : ℕ) → (loan == loan) ≡ true
own_loan loan = grind (arith, nat_tests)

pub last_paid : (h : List Accepted) (key : List ℕ) (loan day : ℕ) → last_payment loan (h ++ accepted key (payment loan day) ∷ []) ≡ (next_reply h (payment loan day)).number
unfolding reply_of
last_paid h key loan day =
    let zero_first : 0 + length h + 1 ≡ length h + 1 = omega arith in
    last_push loan 0 h (accepted key (payment loan day)) 0 ∙ ap (λ b. if b then 0 + length h + 1 else last_payment loan h) (own_loan loan) ∙ zero_first

pub last_kept : (h : List Accepted) (a : Accepted) (loan : ℕ) → is_payment_of loan a.command ≡ false → last_payment loan (h ++ a ∷ []) ≡ last_payment loan h
last_kept h a loan other = last_push loan 0 h a 0 ∙ ap (λ b. if b then 0 + length h + 1 else last_payment loan h) other
