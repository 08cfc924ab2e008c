use Rattle.std.proofs.Common.{◌≤◌, arith}
use Rattle.svc_core.proofs.PartsLemmas.{count_few}
use Rattle.svc_core.proofs.servicing.Core.count.Goals as goal

pub overflow_cast-result : goal.overflow_cast-result
overflow_cast-result g c =
    let few : c.count.result ≤ 1_000_000 = count_few c.self.inside.parts.posted c.count.result c.self.inside.parts.state.today c.self.inside.parts.state.loans c.self.inside.parts.state.seals c.self.inside.parts.cash.book.rows c.self.inside.parts.cash.custody c.self.inside.parts.cash.positions.items c.self.invariant.parts c.count.ensures in
    omega arith

pub returns-clause-few : goal.returns-clause-few
returns-clause-few g c = count_few c.self.inside.parts.posted c.count.result c.self.inside.parts.state.today c.self.inside.parts.state.loans c.self.inside.parts.state.seals c.self.inside.parts.cash.book.rows c.self.inside.parts.cash.custody c.self.inside.parts.cash.positions.items c.self.invariant.parts c.count.ensures
