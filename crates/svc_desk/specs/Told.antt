-- What holds of the desk's answers after a history.
use Rattle.std.specs.Prelude.{◌≡◌, ℕ, List, Option, ℤ}
use Rattle.std.specs.List.{All}
use Rattle.svc_types.specs.declared.books.Books.{Books}
use Rattle.svc_types.specs.declared.desk.Arrears.{Arrears}
use Rattle.svc_types.specs.declared.desk.HistoryLine.{HistoryLine}
use Rattle.svc_types.specs.declared.requests.Query.TheVariants as query
use Rattle.svc_spec.specs.HistoryLaws.{AddUp, IsBalanced}
use Rattle.svc_world.specs.declared.answer.Answer.TheVariants as answer
use Rattle.svc_world.specs.World.{Accepted}
use Rattle.svc_world.specs.Answered.{IsAnswerTo}

-- the lines of a loan's history add up to the books that are answered of it, and each moved what its event brought in less what
-- it paid out
pub record AddsUpToBooks (h : List Accepted) (id : ℕ) (lines : List HistoryLine) : Type 0 where
  pub books : Books
  pub next : Option ℕ
  pub pay : ℤ
  pub answered : IsAnswerTo h (query.Books id) (answer.Books id books next pay)
  pub sums : AddUp lines books
  pub balanced : All IsBalanced lines

-- what is answered of a loan's arrears is that no installment is due
pub record IsBroughtCurrent (h : List Accepted) (id day : ℕ) : Type 0 where
  pub left : Arrears
  pub answered : IsAnswerTo h (query.Arrears id) (answer.Arrears id day left)
  pub none : left.installments ≡ 0
