-- What holds of the lines of each loan's history.
use Rattle.std.specs.Prelude.{◌≡◌, ℕ, List, [], ◌∷◌, Option, Some, None, ◌+ℤ◌, ◌-ℤ◌}
use Rattle.svc_base.specs.Sums.{total_by}
use Rattle.svc_types.specs.declared.books.Books.{Books}
use Rattle.svc_types.specs.declared.account.Entry.{Entry}
use Rattle.svc_types.specs.declared.account.What.{What}
use Rattle.svc_types.specs.declared.account.What.TheVariants as what
use Rattle.svc_types.specs.declared.desk.HistoryLine.{HistoryLine}
use Rattle.svc_spec.specs.Step.{brought_by, paid_out_by}

-- each column of some lines, summed, is that number of the books
pub record AddUp (lines : List HistoryLine) (b : Books) : Type 0 where
  pub interest : total_by (λ l. l.interest) lines ≡ b.interest
  pub principal : total_by (λ l. l.principal) lines ≡ b.principal
  pub escrow : total_by (λ l. l.escrow) lines ≡ b.escrow
  pub late : total_by (λ l. l.late) lines ≡ b.late_owed
  pub charges : total_by (λ l. l.charges) lines ≡ b.late_paid
  pub suspense : total_by (λ l. l.suspense) lines ≡ b.suspense

-- what a line moved is what its event brought in less what it paid out
abbrev pub IsBalanced : HistoryLine → Type 0
IsBalanced l =
    l.interest +ℤ l.principal +ℤ l.escrow +ℤ l.charges +ℤ l.suspense ≡ brought_by l.what -ℤ paid_out_by l.what

-- the entry of a line, before others; a mark has none
abbrev pub with_entry : ℕ → Option ℕ → What → List Entry → List Entry
with_entry day number what.MonthMark es = es
with_entry day number (what.LateMark k) es = es
with_entry day None (what.Act a) es = es
with_entry day (Some n) (what.Act a) es = record { number = n; day = day; act = a } ∷ es

-- the entries of some lines
abbrev pub entries_told : List HistoryLine → List Entry
entries_told [] = []
entries_told (l ∷ ls) = with_entry l.day l.number l.what (entries_told ls)
