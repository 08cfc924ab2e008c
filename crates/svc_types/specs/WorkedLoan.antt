-- The loan of the worked rows: 200,000.00 at 6% with a level payment of 1,199.10, boarded on 2023-12-15
-- and first due in 2024-02.
use Rattle.std.specs.Prelude.{ℕ, ◌+◌, ◌-◌, ◌*◌, pos}
use Rattle.svc_types.specs.declared.terms.Terms.{Terms}
use Rattle.svc_types.specs.declared.terms.RemitType.{RemitType}

-- a month and a day by their numbers in the calendar
abbrev pub month_at : ℕ → ℕ → ℕ
month_at y m = 12 * y + (m - 1)

abbrev pub day_at : ℕ → ℕ → ℕ → ℕ
day_at y m d = 31 * month_at y m + (d - 1)

-- the loan, with its remittance type, its servicing fee in thousandths of a percent and its term
abbrev pub loan_with : RemitType → ℕ → ℕ → Terms
loan_with kind fee term = record {
  boarded = day_at 2023 12 15;
  principal = pos 20_000_000;
  rate = 6_000;
  fee = fee;
  pi = pos 119_910;
  term = term;
  first = month_at 2024 2;
  grace = 15;
  late = 500;
  cushion = 2;
  escrow = pos 0;
  kind = kind;
}
