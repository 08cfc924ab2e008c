-- What brings a loan current on a day: the installments that are due by then and not paid.
use Rattle.std.specs.Prelude.{ℕ, ℤ, pos, ◌-ℤ◌}
use Rattle.std.specs.Int.{int_max}
use Rattle.svc_base.specs.Calendar.{month_of}
use Rattle.svc_types.specs.declared.terms.Terms.{Terms}
use Rattle.svc_types.specs.declared.books.Books.{Books}
use Rattle.svc_types.specs.declared.desk.Arrears.{Arrears}
use Rattle.svc_spec.specs.Settling.{greatest, due_count, they_exist, need}

-- how many installments from the open one on exist, each on the balance that those before it leave, and are
-- due on or before a day: they are due on first days of months
unfoldable pub installments_due : Terms → ℕ → Books → ℕ
installments_due t day b = greatest (they_exist t b.upb b.next) (due_count t (month_of day) b.next)

-- what they ask together
abbrev pub sum_due : Terms → ℕ → Books → ℤ
sum_due t day b = need t b.plan b.earlier b.upb b.next (installments_due t day b)

-- what is asked, what waits in suspense, what is to be paid beside it, and the late charges owed
abbrev pub arrears_of : Terms → ℕ → Books → Arrears
arrears_of t day b = record {
  installments = installments_due t day b;
  due = sum_due t day b;
  suspense = b.suspense;
  pay = int_max (pos 0) (sum_due t day b -ℤ b.suspense);
  late = b.late_owed;
}
