-- What the answers to queries stand on.
use Rattle.std.specs.Prelude.{◌≡◌, ℕ, List, pos, ◌≤ℤ◌, ⊤}
use Rattle.std.specs.List.{All}
use Rattle.svc_types.specs.declared.books.Installment.{Installment}
use Rattle.svc_types.specs.declared.requests.Query.{Query}
use Rattle.svc_types.specs.declared.requests.Query.TheVariants as query
use Rattle.svc_loan.specs.Kept.{KeptLoan}

-- each loan is on that business day
abbrev pub AreOnDay : ℕ → List KeptLoan → Type 0
AreOnDay today ks = All (λ (k : KeptLoan). k.held.account.today ≡ today) ks

-- an installment whose parts are so small that an amount holds their sum
pub record IsPayable (i : Installment) : Type 0 where
  pub interest_low : pos 0 ≤ℤ i.interest
  pub interest_high : i.interest ≤ℤ pos 208_333_333
  pub principal_low : pos 0 ≤ℤ i.principal
  pub principal_high : i.principal ≤ℤ pos 10_000_000_000
  pub escrow_low : pos 0 ≤ℤ i.escrow
  pub escrow_high : i.escrow ≤ℤ pos 300_000_000_000_000

-- the answer is a list, for which memory is wanted
abbrev pub WantsMemory : Query → Type 0
WantsMemory (query.Books id) = ⊥
WantsMemory (query.At id d) = ⊥
WantsMemory (query.Payoff id d) = ⊥
WantsMemory (query.Escrow id) = ⊥
WantsMemory (query.Report p) = ⊤
WantsMemory (query.Trial p) = ⊤
WantsMemory query.Custodial = ⊥
WantsMemory (query.Rows number) = ⊤
WantsMemory (query.Loan id) = ⊤
WantsMemory (query.History id) = ⊤
WantsMemory (query.Quote id d) = ⊥
WantsMemory (query.Arrears id) = ⊥
WantsMemory query.Aging = ⊤
WantsMemory query.Status = ⊥
WantsMemory (query.Command number) = ⊥
WantsMemory (query.Key key) = ⊥
