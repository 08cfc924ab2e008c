-- A text that more was appended to begins with the old one.
use Rattle.std.proofs.Common.{◌≡◌, List, ℕ, ◌++◌, length, take, drop, sym, ap, ◌∙◌, append_assoc}
use Rattle.std.proofs.Math.Seq.{take-append_seam, take-length}
use Rattle.std.proofs.lemmas.List.{take-append-drop}
use Rattle.serv_line.specs.Pushed.{Keeps}

-- what begins with a longer text begins with the shorter one that it was made of
pub keeps_before : (a t b c : List ℕ) → b ≡ a ++ t → Keeps b c → Keeps a c
keeps_before a t b c e k =
    let whole : c ≡ a ++ (t ++ drop (length b) c) =
    sym (take-append-drop (length b) c) ∙ ap (λ (x : List ℕ). x ++ drop (length b) c) (k.begins ∙ e) ∙ append_assoc a t (drop (length b) c) in
    record { begins = ap (λ (x : List ℕ). take (length a) x) whole ∙ take-append_seam a (t ++ drop (length b) c) }

-- a text that stays begins with itself
pub keeps_same : (a c : List ℕ) → c ≡ a → Keeps a c
keeps_same a c e = record { begins = ap (λ (x : List ℕ). take (length a) x) e ∙ take-length a }

-- what stays of a text, call by call
pub ruleset keeps = (keeps_before, keeps_same)
