-- The months of a year, one after the other.
use Rattle.std.proofs.Common.{◌≡◌, ℕ, zero, suc, ◌+◌, ◌<◌, List, [], ◌∷◌, ◌++◌, get_or, take, ap, ◌∙◌, sym, arith, refl}
use Rattle.std.specs.List.{flat_map}
use Rattle.std.proofs.lemmas.List.{take_more, flat_map_more}
use Rattle.escrow_analysis.specs.AggregateAnalysis.{months}

-- the month at a place, from 0
month_at : (k : ℕ) → k < 12 → get_or months k 0 ≡ k + 1
month_at zero h = refl
month_at (suc zero) h = refl
month_at (suc (suc zero)) h = refl
month_at (suc (suc (suc zero))) h = refl
month_at (suc (suc (suc (suc zero)))) h = refl
month_at (suc (suc (suc (suc (suc zero))))) h = refl
month_at (suc (suc (suc (suc (suc (suc zero)))))) h = refl
month_at (suc (suc (suc (suc (suc (suc (suc zero))))))) h = refl
month_at (suc (suc (suc (suc (suc (suc (suc (suc zero)))))))) h = refl
month_at (suc (suc (suc (suc (suc (suc (suc (suc (suc zero))))))))) h = refl
month_at (suc (suc (suc (suc (suc (suc (suc (suc (suc (suc zero)))))))))) h = refl
month_at (suc (suc (suc (suc (suc (suc (suc (suc (suc (suc (suc zero))))))))))) h = refl
month_at (suc (suc (suc (suc (suc (suc (suc (suc (suc (suc (suc (suc k)))))))))))) h = absurd (omega arith)

-- one month more
pub months_more : (k : ℕ) → k < 12 → take (k + 1) months ≡ take k months ++ ((k + 1) ∷ [])
months_more k h = take_more months k 0 h ∙ ap (λ (m : ℕ). take k months ++ (m ∷ [])) (month_at k h)

-- the text of one month more
pub months_text : (out now : List ℕ) (f : ℕ → List ℕ) (k : ℕ) → k < 12 → now ≡ out ++ flat_map f (take k months) → now ++ f (k + 1) ≡ out ++ flat_map f (take (k + 1) months)
months_text out now f k h e =
    ap (λ (t : List ℕ). t ++ f (k + 1)) e ∙ flat_map_more f out (take k months) (k + 1)
    ∙ ap (λ (ks : List ℕ). out ++ flat_map f ks) (sym (months_more k h))
