-- Counts of loans by how late they are.
use Rattle.std.specs.Prelude.{ℕ, ◌+◌, ◌≤◌, ◌&&◌, nat_le, not, Bool, if◌then◌else◌}
use Rattle.svc_world.specs.declared.desk.AgingCounts.{AgingCounts}

-- the counts of two lists of loans together
abbrev pub and : AgingCounts → AgingCounts → AgingCounts
and a b = record {
  current = a.current + b.current;
  late1 = a.late1 + b.late1;
  late30 = a.late30 + b.late30;
  late60 = a.late60 + b.late60;
  late90 = a.late90 + b.late90;
  satisfied = a.satisfied + b.satisfied;
}

abbrev pub one_if : Bool → ℕ
one_if b = if b then 1 else 0

-- those of one loan, by whether it is satisfied and how many days it is late
abbrev pub counts_of_one : Bool → ℕ → AgingCounts
counts_of_one satisfied days = record {
  current = one_if (not satisfied && nat_le days 0);
  late1 = one_if (nat_le 1 days && nat_le days 29);
  late30 = one_if (nat_le 30 days && nat_le days 59);
  late60 = one_if (nat_le 60 days && nat_le days 89);
  late90 = one_if (nat_le 90 days);
  satisfied = one_if satisfied;
}

-- each is at most so many
pub record AreUpTo (n : ℕ) (c : AgingCounts) : Type 0 where
  pub current : c.current ≤ n
  pub late1 : c.late1 ≤ n
  pub late30 : c.late30 ≤ n
  pub late60 : c.late60 ≤ n
  pub late90 : c.late90 ≤ n
  pub satisfied : c.satisfied ≤ n
