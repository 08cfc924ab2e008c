use Rattle.std.proofs.Common.{◌≡◌}
use Rattle.std.specs.List.{All}
use Rattle.svc_world.specs.Custody.{rows_in}
use Rattle.bank_recon.specs.Moving.{IsMovable}
use Rattle.bank_recon.proofs.SpanLemmas.{items_to}
use Rattle.bank_recon.proofs.span.items_of_span.Given as goal

abbrev pub invariant-loop-done : goal.invariant-loop-done
invariant-loop-done g l = record {
  items : l.items.items ≡ items_to l.carried l.first l.done l.core.history;
  rows : All IsMovable (rows_in l.core.history);
}
