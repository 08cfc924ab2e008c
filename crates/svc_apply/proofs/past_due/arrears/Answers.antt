use Rattle.std.proofs.Common.{◌≡◌, ℕ, arith}
use Rattle.std.specs.Prelude.{ℤ}
use Rattle.std.proofs.lemmas.Int.{ints, clamps}
use Rattle.svc_types.specs.declared.desk.Arrears.{Arrears}
use Rattle.svc_spec.specs.Arrears.{arrears_of}
use Rattle.svc_apply.proofs.past_due.arrears.Goals as goal

same_arrears : (a b : Arrears) → a.installments ≡ b.installments → a.due ≡ b.due → a.suspense ≡ b.suspense → a.pay ≡ b.pay → a.late ≡ b.late → a ≡ b
same_arrears a b h1 h2 h3 h4 h5 = same_parts a.installments b.installments a.due b.due a.suspense b.suspense a.pay b.pay a.late b.late h1 h2 h3 h4 h5
  where
    same_parts : (n n' : ℕ) (d d' s s' p p' l l' : ℤ) → n ≡ n' → d ≡ d' → s ≡ s' → p ≡ p' → l ≡ l' → (let x : Arrears = record { installments = n; due = d; suspense = s; pay = p; late = l } in let y : Arrears = record { installments = n'; due = d'; suspense = s'; pay = p'; late = l' } in x ≡ y)
    same_parts n n' d d' s s' p p' l l' g1 g2 g3 g4 g5 = cc

pub returns-clause-value : goal.returns-clause-value
returns-clause-value g c =
    let signs = c.requires.books.signs in
    let within = c.requires.books.within in
    let low = c.asked_by-asked.ensures.low in
    let high = c.asked_by-asked.ensures.high in
    let sum = c.asked_by-asked.ensures.sum in
    let most = c.max.ensures.value in
    same_arrears _ (arrears_of c.args.terms.now c.args.day c.args.books.now) c.asked_by-asked.ensures.installments (omega (arith, ints)) (omega (arith, ints)) (omega (arith, ints, clamps)) (omega (arith, ints))
