-- The fields of a key are those that its bytes give back.
use Rattle.std.specs.Prelude.{◌≡◌, ℕ, ◌-◌, ◌++◌, List, length, take, drop, replicate}
use Rattle.std.proofs.Common.{arith, ap, sym, ◌∙◌}
use Rattle.std.proofs.lemmas.List.{take-append-drop, length-take}
use Rattle.svc_types.specs.Keys.{IsKeyOf}
use Rattle.svc_types.specs.declared.key.Key.TheInside.{Inside}

same_fields : (b b' : List ℕ) (n n' : ℕ) → b ≡ b' → n ≡ n' → (let x : Inside = record { bytes = b; len = n } in let y : Inside = record { bytes = b'; len = n' } in x ≡ y)
same_fields b b' n n' p q = cc

pub fields_back : (a : Inside) → IsKeyOf a.bytes a.len → record { bytes = take a.len a.bytes ++ replicate (32 - length (take a.len a.bytes)) 0; len = length (take a.len a.bytes) } ≡ a
fields_back a h =
    let len : length (take a.len a.bytes) ≡ a.len = omega (arith, length-take a.len a.bytes, h.size, h.high) in
    let rest : replicate (32 - length (take a.len a.bytes)) 0 ≡ drop a.len a.bytes = ap (λ n. replicate (32 - n) 0) len ∙ sym h.rest in
    let bytes : take a.len a.bytes ++ replicate (32 - length (take a.len a.bytes)) 0 ≡ a.bytes = ap (λ r. take a.len a.bytes ++ r) rest ∙ take-append-drop a.len a.bytes in
    same_fields _ a.bytes _ a.len bytes len
