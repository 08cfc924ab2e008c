-- What a settling needs of the books, so that no sum leaves its type.
use Rattle.std.specs.Prelude.{suc, ℤ, pos, ◌+ℤ◌, ◌-ℤ◌, ◌≤ℤ◌}
use Rattle.svc_types.specs.declared.books.Books.{Books}
use Rattle.svc_spec.specs.Books.{AreWithin}
use Rattle.svc_types.specs.declared.books.Installment.{Installment}

-- each sum may take all of suspense, and none but escrow is below 0
pub record MaySettle (b : Books) : Type 0 where
  pub upb_low : pos 0 ≤ℤ b.upb
  pub suspense : b.suspense ≤ℤ pos 4_000_000_000_000_000_000
  pub interest_low : pos 0 ≤ℤ b.interest
  pub fee_low : pos 0 ≤ℤ b.fee
  pub principal_low : pos 0 ≤ℤ b.principal
  pub late_paid_low : pos 0 ≤ℤ b.late_paid
  pub interest : (b.interest +ℤ b.suspense) ≤ℤ pos 4_000_000_000_000_000_000
  pub fee : (b.fee +ℤ b.suspense) ≤ℤ pos 4_000_000_000_000_000_000
  pub principal : (b.principal +ℤ b.suspense) ≤ℤ pos 4_000_000_000_000_000_000
  pub late_paid : (b.late_paid +ℤ b.suspense) ≤ℤ pos 4_000_000_000_000_000_000
  pub escrow : (b.escrow +ℤ b.suspense) ≤ℤ pos 4_000_000_000_000_000_000
  pub escrow_low : pos 0 ≤ℤ (b.escrow +ℤ pos 4_000_000_000_000_000_000)

-- the parts of an installment on a balance
pub record HasParts (i : Installment) (upb : ℤ) : Type 0 where
  pub balance : upb ≤ℤ pos 10_000_000_000
  pub interest : pos 0 ≤ℤ i.interest
  pub interest_high : i.interest ≤ℤ pos 208_333_333
  pub fee : pos 0 ≤ℤ i.fee
  pub fee_high : i.fee ≤ℤ i.interest
  pub principal : pos 0 ≤ℤ i.principal
  pub principal_high : i.principal ≤ℤ upb
  pub escrow : pos 0 ≤ℤ i.escrow
  pub escrow_high : i.escrow ≤ℤ pos 300_000_000_000_000

-- the sums of books, whatever their terms
pub record AreSums (b : Books) : Type 0 where
  pub upb_low : pos 0 ≤ℤ b.upb
  pub upb_high : b.upb ≤ℤ pos 10_000_000_000
  pub suspense : pos 0 ≤ℤ b.suspense
  pub late_owed : pos 0 ≤ℤ b.late_owed
  pub curtailed : pos 0 ≤ℤ b.curtailed
  pub within : AreWithin b

-- sums within the limits, but that suspense may have grown by an amount
pub record AreNear (b : Books) : Type 0 where
  pub escrow_low : pos 0 ≤ℤ (b.escrow +ℤ pos 1_000_000_000_000_000_000)
  pub escrow_high : b.escrow ≤ℤ pos 1_000_000_000_000_000_000
  pub suspense_low : pos 0 ≤ℤ b.suspense
  pub suspense_high : b.suspense ≤ℤ pos 1_000_100_000_000_000_000
  pub late_owed : b.late_owed ≤ℤ pos 1_000_000_000_000_000_000
  pub interest : b.interest ≤ℤ pos 1_000_000_000_000_000_000
  pub fee : b.fee ≤ℤ pos 1_000_000_000_000_000_000
  pub principal : b.principal ≤ℤ pos 1_000_000_000_000_000_000
  pub late_paid : b.late_paid ≤ℤ pos 1_000_000_000_000_000_000

-- so much of suspense may be applied to principal or to escrow
pub record MayApply (x : ℤ) (b : Books) : Type 0 where
  pub low : pos 0 ≤ℤ x
  pub within : x ≤ℤ b.suspense
  pub upb_low : pos 0 ≤ℤ b.upb
  pub upb_high : b.upb ≤ℤ pos 10_000_000_000
  pub principal : b.principal ≤ℤ pos 4_000_000_000_000_000_000
  pub curtailed : b.curtailed ≤ℤ pos 1_000_000_000_000_000_000
  pub escrow : (b.escrow +ℤ x) ≤ℤ pos 4_000_000_000_000_000_000

-- the books that the installments after the open one look at: they are on the balance that it leaves
abbrev pub left_behind : Installment → Books → Books
left_behind i b = record b { upb = b.upb -ℤ i.principal; next = suc i.k }
