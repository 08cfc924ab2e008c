-- Results, and what a disk tells.
use Rattle.std.proofs.Common.{◌≡◌, ℕ, List, Option, Some, None, refl, subst}
use Rattle.std.specs.Prelude.{Result, Ok, Err, OnOk}
use Rattle.serv_disk.specs.Disks.{Told}

pub told_from : (old new : Option (List ℕ)) (step : List ℕ → List ℕ → Type 0) (s : List ℕ) → old ≡ Some s → Told old new step → (t : List ℕ) × (new ≡ Some t) × step s t
told_from None new step s is told = absurd (cc)
told_from (Some l) None step s is told = absurd told
told_from (Some l) (Some t) step s is told = let same : l ≡ s = cc in (t, refl, subst (λ x. step x t) same told)

-- two clauses of one result
pub on_ok_both : {T E P Q R : Type 0} (r : Result T E) → (P → Q → R) → OnOk r P → OnOk r Q → OnOk r R
on_ok_both (Ok x) both p q = both p q
on_ok_both (Err e) both p q = tt
