use Rattle.std.proofs.Common.{ap, ◌∙◌}
use Rattle.custodial_book.specs.Rows.{rows_of_command}
use Rattle.svc_world.specs.Custody.{rows_in}
use Rattle.svc_core.specs.Core.{Standing}
use Rattle.svc_core.proofs.servicing.Core.rows.Goals as goal

pub returns : goal.returns
returns g c =
    let hist = ap (λ (s : Standing). s.history) c.self.view_is in
    c.rows.ensures ∙ ap (rows_of_command c.args.number) (c.self.invariant.parts.book ∙ ap rows_in hist)
