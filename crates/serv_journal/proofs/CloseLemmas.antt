-- What closing a commit byte leaves.
use Rattle.std.proofs.Common.{◌≡◌, ℕ, ◌+◌, List, [], ◌∷◌, ◌++◌, Option, Some, length, drop, sym, ap, ◌∙◌, arith, append_assoc, length-append}
use Rattle.std.proofs.lemmas.List.{take_at, drop_at}
use Rattle.serv_disk.specs.Disks.{Holds, Told}
use Rattle.serv_journal.proofs.OutcomeLemmas.{told_from}

holds_exact : (front rest t : List ℕ) (at b value : ℕ) → length front ≡ at → Holds at (value ∷ []) (front ++ b ∷ rest) t → t ≡ front ++ value ∷ rest
holds_exact front rest t at b value long holds =
    let more : front ++ b ∷ rest ≡ (front ++ b ∷ []) ++ rest = sym (append_assoc front (b ∷ []) rest) in
    let last : drop (at + 1) (front ++ b ∷ rest) ≡ rest = ap (drop (at + 1)) more ∙ drop_at (front ++ b ∷ []) rest (at + 1) (omega (arith, length-append front (b ∷ []))) in
    holds ∙ (ap (λ x. x ++ value ∷ [] ++ drop (at + 1) (front ++ b ∷ rest)) (take_at front (b ∷ rest) at long) ∙ (ap (λ x. front ++ value ∷ [] ++ x) last ∙ append_assoc front (value ∷ []) rest))

pub told_exact : (old new : Option (List ℕ)) (front rest : List ℕ) (at b value : ℕ) → length front ≡ at → old ≡ Some (front ++ b ∷ rest) → Told old new (Holds at (value ∷ []))
    → new ≡ Some (front ++ value ∷ rest)
told_exact old new front rest at b value long is told =
    let found = told_from old new (Holds at (value ∷ [])) (front ++ b ∷ rest) is told in
    found.1 ∙ ap (λ x. Some x) (holds_exact front rest found.0 at b value long found.2)
