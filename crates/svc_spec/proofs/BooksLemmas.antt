-- Books are their fields.
use Rattle.std.proofs.Common.{◌≡◌, ℕ}
use Rattle.std.specs.Prelude.{ℤ, Option}
use Rattle.svc_types.specs.declared.escrow.EscrowPlan.{EscrowPlan}
use Rattle.svc_types.specs.declared.books.Books.{Books}

same_parts : (d d' : ℕ) (u u' : ℤ) (n n' : ℕ) (e e' s s' l l' i i' f f' p p' c c' q q' : ℤ) (a a' b b' : EscrowPlan) (o o' : Option ℕ) → d ≡ d' → u ≡ u' → n ≡ n' → e ≡ e' → s ≡ s' → l ≡ l' → i ≡ i' → f ≡ f' → p ≡ p' → c ≡ c' → q ≡ q' → a ≡ a' → b ≡ b' → o ≡ o' → (let x : Books = record { day = d; upb = u; next = n; escrow = e; suspense = s; late_owed = l; interest = i; fee = f; principal = p; curtailed = c; late_paid = q; plan = a; earlier = b; satisfied = o } in let y : Books = record { day = d'; upb = u'; next = n'; escrow = e'; suspense = s'; late_owed = l'; interest = i'; fee = f'; principal = p'; curtailed = c'; late_paid = q'; plan = a'; earlier = b'; satisfied = o' } in x ≡ y)
same_parts d d' u u' n n' e e' s s' l l' i i' f f' p p' c c' q q' a a' b b' o o' h1 h2 h3 h4 h5 h6 h7 h8 h9 h10 h11 h12 h13 h14 = cc

pub same_books : (a b : Books) → a.day ≡ b.day → a.upb ≡ b.upb → a.next ≡ b.next → a.escrow ≡ b.escrow → a.suspense ≡ b.suspense → a.late_owed ≡ b.late_owed → a.interest ≡ b.interest → a.fee ≡ b.fee → a.principal ≡ b.principal → a.curtailed ≡ b.curtailed → a.late_paid ≡ b.late_paid → a.plan ≡ b.plan → a.earlier ≡ b.earlier → a.satisfied ≡ b.satisfied → a ≡ b
same_books a b day upb next escrow suspense late_owed interest fee principal curtailed late_paid plan earlier satisfied =
    same_parts a.day b.day a.upb b.upb a.next b.next a.escrow b.escrow a.suspense b.suspense a.late_owed b.late_owed a.interest b.interest a.fee b.fee a.principal b.principal a.curtailed b.curtailed a.late_paid b.late_paid a.plan b.plan a.earlier b.earlier a.satisfied b.satisfied day upb next escrow suspense late_owed interest fee principal curtailed late_paid plan earlier satisfied
