-- What is answered to a query after a history: it is not refused, and has this answer.
use Rattle.std.specs.Prelude.{◌≡◌, List, None, Some}
use Rattle.svc_types.specs.declared.requests.Query.{Query}
use Rattle.svc_world.specs.declared.answer.Answer.{Answer}
use Rattle.svc_world.specs.World.{Accepted}
use Rattle.svc_world.specs.Answers.{query_refusal, answer_to}

pub record IsAnswerTo (h : List Accepted) (q : Query) (a : Answer) : Type 0 where
  pub not_refused : query_refusal h q ≡ None
  pub answer : answer_to h q ≡ Some a
