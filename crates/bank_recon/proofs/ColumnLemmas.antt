-- The first column of a row that does not fit.
use Rattle.std.proofs.Common.{◌≢◌, ◌<◌, ℕ, zero, suc, List, [], ◌∷◌, length, refl, arith}
use Rattle.serv_rows.specs.Columns.{count, column}
use Rattle.bank_recon.specs.Rows.{IsKindWord, IsAccountWord, IsNumberWord, IsAmountWord, Fits, IsBadAt}

pub bad_kind : (kind account number amount : List ℕ) → (IsKindWord kind → ⊥) → IsBadAt (kind ∷ account ∷ number ∷ amount ∷ []) 1
bad_kind kind account number amount not = column 0 refl (record { before = before; here = not }) where
  before : (i : ℕ) → i < 0 → Fits (kind ∷ account ∷ number ∷ amount ∷ []) i
  before i h = absurd (omega arith)

pub bad_account : (kind account number amount : List ℕ) → IsKindWord kind → (IsAccountWord account → ⊥) → IsBadAt (kind ∷ account ∷ number ∷ amount ∷ []) 2
bad_account kind account number amount k not = column 1 refl (record { before = before; here = not }) where
  before : (i : ℕ) → i < 1 → Fits (kind ∷ account ∷ number ∷ amount ∷ []) i
  before zero h = k
  before (suc i) h = absurd (omega arith)

pub bad_number : (kind account number amount : List ℕ) → IsKindWord kind → IsAccountWord account → (IsNumberWord number → ⊥) → IsBadAt (kind ∷ account ∷ number ∷ amount ∷ []) 3
bad_number kind account number amount k a not = column 2 refl (record { before = before; here = not }) where
  before : (i : ℕ) → i < 2 → Fits (kind ∷ account ∷ number ∷ amount ∷ []) i
  before zero h = k
  before (suc zero) h = a
  before (suc (suc i)) h = absurd (omega arith)

pub bad_amount : (kind account number amount : List ℕ) → IsKindWord kind → IsAccountWord account → IsNumberWord number → (IsAmountWord amount → ⊥) → IsBadAt (kind ∷ account ∷ number ∷ amount ∷ []) 4
bad_amount kind account number amount k a n not = column 3 refl (record { before = before; here = not }) where
  before : (i : ℕ) → i < 3 → Fits (kind ∷ account ∷ number ∷ amount ∷ []) i
  before zero h = k
  before (suc zero) h = a
  before (suc (suc zero)) h = n
  before (suc (suc (suc i))) h = absurd (omega arith)

pub not_four : (row : List (List ℕ)) → length row ≢ 4 → IsBadAt row 5
not_four row not = count not
