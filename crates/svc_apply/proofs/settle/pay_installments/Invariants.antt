use Rattle.std.proofs.Common.{◌≡◌, ◌+◌, ◌-◌}
use Rattle.svc_spec.specs.Books.{HaveSigns}
use Rattle.svc_spec.specs.Settling.{moves, moved}
use Rattle.svc_apply.specs.Conditions.{MaySettle}
use Rattle.svc_apply.proofs.settle.pay_installments.Given as goal

-- what is left to move is what was to be moved
abbrev pub invariant-loop-open : goal.invariant-loop-open
invariant-loop-open g l = record {
  signs : HaveSigns l.terms l.books;
  sums : MaySettle l.books;
  rest : moved l.terms (moves l.terms l.by l.books) l.books ≡ moved l.terms (moves l.terms l.by l.fn.books) l.fn.books;
  count : l.steps + moves l.terms l.by l.books ≡ l.fn.steps + moves l.terms l.by l.fn.books;
}

abbrev pub decreases-loop-open : goal.decreases-loop-open
decreases-loop-open g l = l.terms.term + 1 - l.books.next
