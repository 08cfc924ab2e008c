-- Which remittance type a month has.
use Rattle.std.proofs.Common.{◌≡◌, ◌⊎◌, ℕ, ◌≤◌, ◌<◌, true, false, List, [], ◌∷◌, get_or, inl, inr, arith, refl, ap, sym, subst}
use Rattle.std.specs.Prelude.{◌&&◌, nat_le, nat_lt, fold, if◌then◌else◌}
use Rattle.std.specs.List.{All}
use Rattle.std.proofs.lemmas.Bool.Decides.{nat_tests}
use Rattle.std.proofs.lemmas.List.Elements.{All-cons}
use Rattle.svc_types.specs.declared.terms.Terms.{Terms}
use Rattle.svc_types.specs.declared.requests.TypeChange.{TypeChange}
use Rattle.svc_world.specs.LoanDues.{type_change, counting, Counts}
use Rattle.svc_world.specs.Laws.{IsKindIn}

-- where no change counts the best so far stays, and each begins before it or after the month
record Stays (types : List TypeChange) (month : ℕ) (best r : TypeChange) : Type 0 where
  same : r ≡ best
  none : All (λ (x : TypeChange). x.from ≤ month → x.from < best.from) types

-- else one of them counts, which begins no earlier
record Wins (types : List TypeChange) (month : ℕ) (best r : TypeChange) : Type 0 where
  counts : Counts types month r
  later : best.from ≤ r.from

found : (types : List TypeChange) (month : ℕ) (best : TypeChange) → Stays types month best (fold (counting month) best types) ⊎ Wins types month best (fold (counting month) best types)
found [] month best = inl (record { same = refl; none = λ k d lt. absurd (omega arith) })
found (c ∷ cs) month best =
    elim (nat_le c.from month && nat_le best.from c.from) as (λ v. (nat_le c.from month && nat_le best.from c.from) ≡ v → Stays (c ∷ cs) month best (fold (counting month) (if v then c else best) cs) ⊎ Wins (c ∷ cs) month best (fold (counting month) (if v then c else best) cs)) [
      | true ↦ λ e. inr (counted c cs month best (by c best month e) (found cs month c))
      | false ↦ λ e. passed c cs month best (not_by c best month e) (found cs month best)
    ] refl
  where
    by : (c best : TypeChange) (month : ℕ) → (nat_le c.from month && nat_le best.from c.from) ≡ true → (c.from ≤ month) × (best.from ≤ c.from)
    by c best month e = (grind (arith, nat_tests), grind (arith, nat_tests))

    not_by : (c best : TypeChange) (month : ℕ) → (nat_le c.from month && nat_le best.from c.from) ≡ false → c.from ≤ month → c.from < best.from
    not_by c best month e le = grind (arith, nat_tests)

    counted : (c : TypeChange) (cs : List TypeChange) (month : ℕ) (best : TypeChange) {r : TypeChange} → (c.from ≤ month) × (best.from ≤ c.from) → Stays cs month c r ⊎ Wins cs month c r → Wins (c ∷ cs) month best r
    counted c cs month best le (inl s) = subst (λ x. Wins (c ∷ cs) month best x) (sym s.same) (record {
      counts = record { front = []; back = cs; is = refl; begins = le.0; before = λ k d lt. absurd (omega arith); after = s.none };
      later = le.1;
    })
    counted c cs month best {r} le (inr w) =
        let one = w.later in
        let low = le.1 in
        record {
          counts = record { front = c ∷ w.counts.front; back = w.counts.back; is = ap (λ xs. c ∷ xs) w.counts.is; begins = w.counts.begins; before = All-cons (λ (x : TypeChange). x.from ≤ month → x.from ≤ r.from) c w.counts.front (λ le. one) w.counts.before; after = w.counts.after };
          later = omega arith;
        }

    passed : (c : TypeChange) (cs : List TypeChange) (month : ℕ) (best : TypeChange) {r : TypeChange} → (c.from ≤ month → c.from < best.from) → Stays cs month best r ⊎ Wins cs month best r → Stays (c ∷ cs) month best r ⊎ Wins (c ∷ cs) month best r
    passed c cs month best lt (inl s) = inl (record { same = s.same; none = All-cons (λ (x : TypeChange). x.from ≤ month → x.from < best.from) c cs lt s.none })
    passed c cs month best {r} lt (inr w) =
        let low = w.later in
        inr (record {
          counts = record { front = c ∷ w.counts.front; back = w.counts.back; is = ap (λ xs. c ∷ xs) w.counts.is; begins = w.counts.begins; before = All-cons (λ (x : TypeChange). x.from ≤ month → x.from ≤ r.from) c w.counts.front (λ le. let here = lt le in omega arith) w.counts.before; after = w.counts.after };
          later = w.later;
        })

never : (x m : ℕ) → (x ≤ m → x < 0) → m < x
never x m h = elim (nat_lt m x) as (λ v. nat_lt m x ≡ v → m < x) [
  | true ↦ λ e. grind (arith, nat_tests)
  | false ↦ λ e. let le : x ≤ m = grind (arith, nat_tests) in absurd (let bad = h le in omega arith)
] refl

-- none begins by the month, and the type is that of the terms; or one counts
pub kind_found : (t : Terms) (types : List TypeChange) (month : ℕ) → IsKindIn t types month
kind_found t types month =
    let best = type_change 0 t.kind in
    elim (found types month best) as (λ either. IsKindIn t types month) [
      | inl s ↦ inl (record { kind = ap (λ (c : TypeChange). c.kind) s.same; none = λ k d lt. never (get_or types k d).from month (s.none k d lt) })
      | inr w ↦ inr (record { change = fold (counting month) best types; counts = w.counts; kind = refl })
    ]
