use Rattle.std.proofs.Common.{ap, sym, ◌∙◌}
use Rattle.std.specs.Prelude.{◌==◌}
use Rattle.std.specs.List.{list_any}
use Rattle.std.proofs.lemmas.List.Sorted.{list_any-IsPermutation}
use Rattle.svc_types.proofs.OrderLemmas.{list_any-map}
use Rattle.svc_types.proofs.order.reversed_numbers.Goals as goal

pub returns-clause-same : goal.returns-clause-same
returns-clause-same c n =
    sym (list_any-IsPermutation (λ x. x == n) c.in_ok-numbers.numbers.items c.sort_unstable.new.self.items c.sort_unstable.ensures.permutation)
    ∙ ap (list_any (λ x. x == n)) c.in_ok-numbers.ensures
    ∙ list_any-map (λ x. x == n) (λ r. r.0) c.args.reversed.now
