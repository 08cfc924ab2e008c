use Rattle.svc_spec.specs.Books.{AreBooks}
use Rattle.svc_spec.proofs.LimitLemmas.{AreBounded}
use Rattle.svc_replay_tests.proofs.steps.folded.Given as goal

-- each step so far lifted the sums by a unit at most
abbrev pub invariant-loop-step : goal.invariant-loop-step
invariant-loop-step g l = record {
  books : AreBooks l.terms l.books;
  bounded : AreBounded l.step-index l.books;
}
