-- The keys of commands.
use Rattle.std.specs.Prelude.{◌≡◌, ℕ, ◌-◌, ◌≤◌, Bool, ◌&&◌, ◌||◌, ◌==◌, nat_le, IsTrue, List, length, take, drop, replicate}
use Rattle.std.specs.List.{list_all}

-- a byte of a key: a letter, a digit, or one of . _ : -
abbrev pub is_key_byte : ℕ → Bool
is_key_byte b =
    (nat_le 65 b && nat_le b 90) || (nat_le 97 b && nat_le b 122) || (nat_le 48 b && nat_le b 57)
    || (b == 46) || (b == 95) || (b == 58) || (b == 45)

-- a key: 1 to 32 such bytes
pub record IsKey (text : List ℕ) : Type 0 where
  pub low : 1 ≤ length text
  pub high : length text ≤ 32
  pub each : IsTrue (list_all is_key_byte text)

-- what holds of the fields of a key: zeros stand after its bytes
pub record IsKeyOf (bytes : List ℕ) (len : ℕ) : Type 0 where
  pub size : length bytes ≡ 32
  pub low : 1 ≤ len
  pub high : len ≤ 32
  pub each : IsTrue (list_all is_key_byte (take len bytes))
  pub rest : drop len bytes ≡ replicate (32 - len) 0
