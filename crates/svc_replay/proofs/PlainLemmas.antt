-- What a change of the account that books are kept of is for the books.
use Rattle.std.proofs.Common.{◌≡◌, ℕ, FitsSigned, w64, to_z, of_z, arith, refl}
use Rattle.std.proofs.lemmas.Int.{ints, to_z-of_z}
use Rattle.std.specs.Prelude.{ℤ, pos, ◌-ℤ◌, ◌≤ℤ◌, Option, Some, None, MatchOption, Bool}
use Rattle.svc_types.specs.Terms.{IsSound}
use Rattle.svc_types.specs.declared.terms.Terms.{Terms}
use Rattle.svc_types.specs.declared.books.Books.{Books}
use Rattle.svc_types.specs.declared.books.MonthFacts.{MonthFacts}
use Rattle.svc_types.specs.declared.account.Entry.{Entry}
use Rattle.svc_spec.specs.Books.{AreBooks}
use Rattle.svc_types.specs.Collected.{collected_of}
use Rattle.svc_replay.specs.Collected.{AreWithin}

-- a fact of the entry that is found, where one is
pub of_found : (o : Option Entry) (P : Type 0) (Q : Entry → Type 0) → (o ≡ None → ⊥) → ((e : Entry) → Q e) → MatchOption o P Q
of_found None P Q there q = absurd (there refl)
of_found (Some e) P Q there q = q e

-- the facts of a month are known by their fields
pub facts_same : (m : ℕ) (u u' c c' i i' f f' : ℤ) (s s' : Bool) → u ≡ u' → c ≡ c' → i ≡ i' → f ≡ f' → s ≡ s' → (let x : MonthFacts = record { month = m; upb = u; curtailed = c; interest = i; fee = f; satisfied = s } in let y : MonthFacts = record { month = m; upb = u'; curtailed = c'; interest = i'; fee = f'; satisfied = s' } in x ≡ y)
facts_same m u u' c c' i i' f f' s s' p q r t v = cc

-- amounts that a cast leaves as they are
pub cast_same : (x : ℤ) → pos 0 ≤ℤ x → x ≤ℤ pos 1_000_000_000_000_000_000 → to_z w64 (of_z w64 x) ≡ x
cast_same x low high = let fits : FitsSigned w64 x = omega (arith, ints) in simp to_z-of_z

pub cast_less : (x y : ℤ) → pos 0 ≤ℤ x → x ≤ℤ pos 1_000_000_000_000_000_000 → pos 0 ≤ℤ y → y ≤ℤ pos 1_000_000_000_000_000_000 → to_z w64 (of_z w64 (to_z w64 (of_z w64 x) -ℤ to_z w64 (of_z w64 y))) ≡ x -ℤ y
cast_less x y low high low' high' =
    let fits : FitsSigned w64 (x -ℤ y) = omega (arith, ints) in
    rw (cast_same x low high, cast_same y low' high') (simp to_z-of_z)

-- what books say of what was collected lies within limits
pub within_books : (t : Terms) (b : Books) → IsSound t → AreBooks t b → AreWithin (collected_of b)
within_books t b sound h =
    let most = sound.principal_high in
    let high = h.signs.upb_high in
    record {
      upb_low = h.signs.upb_low;
      upb_high = omega (arith, ints);
      curtailed_low = h.signs.curtailed;
      curtailed_high = h.within.curtailed;
      interest_low = h.signs.interest;
      interest_high = h.within.interest;
      fee_low = h.signs.fee;
      fee_high = h.within.fee;
    }
