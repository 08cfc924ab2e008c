-- A text that is copied before zeros is a key's fields.
use Rattle.std.proofs.Common.{◌≡◌, ℕ, List, ◌++◌, length, take, drop, replicate, arith, ap, ◌∙◌, length-append, length-drop, IsTrue}
use Rattle.std.proofs.lemmas.List.{drop-replicate}
use Rattle.std.proofs.Math.Seq.{take-append_seam, drop-append_seam}
use Rattle.std.specs.List.{list_all}
use Rattle.svc_types.specs.Keys.{IsKey, IsKeyOf, is_key_byte}

pub copied_front : (text copied zeros : List ℕ) → copied ≡ text → take (length text) (copied ++ drop (length text) zeros) ≡ text
copied_front text copied zeros e =
    ap (λ t. take (length text) (t ++ drop (length text) zeros)) e ∙ take-append_seam text (drop (length text) zeros)

pub copied_rest : (text copied zeros : List ℕ) → copied ≡ text → drop (length text) (copied ++ drop (length text) zeros) ≡ drop (length text) zeros
copied_rest text copied zeros e =
    ap (λ t. drop (length text) (t ++ drop (length text) zeros)) e ∙ drop-append_seam text (drop (length text) zeros)

pub copied_key : (text copied : List ℕ) → IsKey text → copied ≡ text → IsKeyOf (copied ++ drop (length text) (replicate 32 0)) (length text)
copied_key text copied key e =
    let zeros : List ℕ = replicate 32 0 in
    let front = copied_front text copied zeros e in
    let each : IsTrue (list_all is_key_byte (take (length text) (copied ++ drop (length text) zeros))) = ap (list_all is_key_byte) front ∙ key.each in
    record {
      size = omega (arith, length-append copied (drop (length text) zeros), length-drop (length text) zeros, ap length e, key.high);
      low = key.low;
      high = key.high;
      each = each;
      rest = copied_rest text copied zeros e ∙ drop-replicate (length text) 32 0;
    }
