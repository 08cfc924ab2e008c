use Rattle.std.proofs.Common.{◌≡◌, ◌+◌, length, length-append, arith, ap, ◌∙◌}
use Rattle.custodial_book.specs.Rows.{rows_of}
use Rattle.svc_custody.proofs.AppendLemmas.{few_rows}
use Rattle.svc_custody.proofs.booking.append_reserved.Goals as goal

pub returns-clause-room : goal.returns-clause-room
returns-clause-room c =
    let rows = c.args.book.now.rows in
    let made = rows_of c.args.number c.args.loan c.args.before.now c.args.later.now in
    let count : length c.append.new.self.rows ≡ length rows + length made = ap length c.in-Ok.ensures.ok ∙ length-append rows made in
    let few = few_rows c.args.number c.args.loan c.args.before.now c.args.later.now in
    let spare = c.in-Ok.ensures.spare in
    omega (arith, count, few, spare)
