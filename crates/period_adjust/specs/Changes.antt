-- The adjustments of a command: the closed months whose dues it changed.
use Rattle.std.specs.Prelude.{ℕ, if◌then◌else◌, Bool, ◌&&◌, List, [], ◌∷◌, ◌++◌, ◌-ℤ◌}
use Rattle.std.specs.Ordering.{int_eq}
use Rattle.remit_types.specs.declared.dues.MonthDue.{MonthDue}
use Rattle.period_adjust.specs.declared.adjustment.Adjustment.{Adjustment}

-- neither interest nor principal differs
abbrev pub is_unchanged : MonthDue → MonthDue → Bool
is_unchanged before after = int_eq before.interest after.interest && int_eq before.principal after.principal

abbrev pub adjustment : ℕ → ℕ → MonthDue → MonthDue → Adjustment
adjustment number loan before after =
    record {
      number = number;
      loan = loan;
      month = after.month;
      interest = after.interest -ℤ before.interest;
      principal = after.principal -ℤ before.principal;
    }

-- the adjustment of a month, where it differs
abbrev pub change_of : ℕ → ℕ → MonthDue → MonthDue → List Adjustment
change_of number loan before after =
    if is_unchanged before after then [] else adjustment number loan before after ∷ []

-- the adjustments of a command, month by month, from the dues before and after it
abbrev pub adjustments_of : ℕ → ℕ → List MonthDue → List MonthDue → List Adjustment
adjustments_of number loan (b ∷ before) (a ∷ after) =
    change_of number loan b a ++ adjustments_of number loan before after
adjustments_of number loan [] after = []
adjustments_of number loan (b ∷ before) [] = []
