-- A loan of the year 2010 with 150 payments, and one entry of March 2024.
use Rattle.std.specs.Prelude.{ℕ, zero, suc, ◌+◌, List, [], ◌∷◌, ◌++◌, ℤ, pos}
use Rattle.svc_types.specs.declared.terms.Terms.{Terms}
use Rattle.svc_types.specs.declared.account.Act.TheVariants as act
use Rattle.svc_types.specs.declared.account.Entry.{Entry}
use Rattle.svc_types.specs.WorkedLoan.{day_at, month_at}
use Rattle.svc_apply.specs.Rows.{worked_loan, regular}
use Rattle.svc_spec.specs.Accounts.{Account}

-- the worked loan, boarded in January 2010 and first due in March
abbrev pub old_loan : Terms
old_loan = record worked_loan { boarded = day_at 2010 1 15; first = month_at 2010 3 }

-- n payments of an amount on one day, from number k on
abbrev pub payments_from : ℕ → ℕ → ℕ → ℤ → List Entry
payments_from k zero d c = []
payments_from k (suc n) d c =
    record { number = k; day = d; act = regular c } ∷ payments_from (k + 1) n d c

-- 150 payments that cover the installments up to that of February 2024, 168 of 1,199.10, and a deposit
abbrev pub old_entries : List Entry
old_entries = payments_from 1 149 (day_at 2010 1 20) (pos 134_299)
    ++ record { number = 150; day = day_at 2010 1 20; act = regular (pos 134_329) }
    ∷ record { number = 151; day = day_at 2024 3 10; act = act.Deposit (pos 1) }
    ∷ []

-- on 2024-04-01
abbrev pub old_account : Account
old_account = record {
  terms = old_loan;
  entries = old_entries;
  reversals = [];
  today = day_at 2024 4 1;
}
