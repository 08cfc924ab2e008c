use Rattle.svc_core.specs.Reported.{interest_of, principal_of}
use Rattle.svc_core.proofs.SentLemmas.{IsSumTo}
use Rattle.svc_core.proofs.sent.sums_of.Given as goal

abbrev pub invariant-loop-line : goal.invariant-loop-line
invariant-loop-line l = record {
  interest : IsSumTo interest_of l.lines l.line-index l.interest;
  principal : IsSumTo principal_of l.lines l.line-index l.principal;
}
