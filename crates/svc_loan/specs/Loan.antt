-- What holds of every loan that is kept.
use Rattle.std.specs.Prelude.{◌≡◌, ℕ, List}
use Rattle.svc_types.specs.declared.requests.TypeChange.{TypeChange}
use Rattle.svc_spec.specs.Accounts.{Account}
use Rattle.remit_types.specs.declared.dues.Carry.{Carry}
use Rattle.svc_loan.specs.declared.moved.Moved.{Moved}
use Rattle.svc_loan.specs.Closed.{MayClose, carries_to}
use Rattle.svc_loan.specs.Moved.{moved_of}

-- n months are closed, and what is carried from each of them is what the definitions say; so are the running numbers
pub record IsLoan (a : Account) (types : List TypeChange) (m : Moved) (n : ℕ) (cs : List Carry) : Type 0 where
  pub may : MayClose a n
  pub kept : cs ≡ carries_to a types n
  pub moved : m ≡ moved_of a
