-- The keys of the commands are keys.
use Rattle.std.proofs.Common.{◌≡◌, ℕ, ◌^◌, ◌<◌, arith, true}
use Rattle.std.proofs.lemmas.Fmt.{length-decimal-le}
use Rattle.std.proofs.lemmas.List.Sums.{list_all-from_AllPass}
use Rattle.std.proofs.lemmas.Bool.Decides.{nat_tests}
use Rattle.std.specs.List.{list_all}
use Rattle.svc_base.specs.Text.{text_of_number}
use Rattle.svc_base.proofs.ByteLemmas.{each_of_number}
use Rattle.svc_types.specs.Keys.{IsKey, is_key_byte}
use Rattle.serv_drill.specs.Machine.{key_of}

bytes_of : (n : ℕ) → n < 2 ^ 64 → list_all is_key_byte (text_of_number n) ≡ true
bytes_of n h =
    list_all-from_AllPass is_key_byte (text_of_number n)
    (each_of_number (λ b. is_key_byte b ≡ true) n (λ d small. grind (arith, nat_tests)) h)

pub numbered_is_key : (n : ℕ) → n < 2 ^ 32 → IsKey (key_of n)
numbered_is_key n h =
    let short = length-decimal-le 10 n (omega arith) (omega arith) (omega arith) in
    record { low = omega arith; high = omega (arith, short); each = bytes_of n (omega arith) }
