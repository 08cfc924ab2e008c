use Rattle.std.proofs.Common.{◌≡◌, ◌+◌, ◌-◌, ◌^◌, ◌*◌, ◌<◌, ◌≤◌, length, take, drop, decimal, arith, ap, sym, ◌∙◌}
use Rattle.std.proofs.lemmas.Fmt.{length-decimal-le}
use Rattle.std.proofs.lemmas.List.{length-take, length-drop}
use Rattle.serv_line.proofs.TextLemmas.{few_digits}
use Rattle.serv_line.proofs.replies.push_plain.Goals as goal

pub write_digits-start-requires : goal.write_digits-start-requires
write_digits-start-requires c =
    let few = few_digits c.from.result (omega (arith, c.from.ensures)) in
    (omega (arith, few), omega arith)

pub overflow_sub-room : goal.overflow_sub-room
overflow_sub-room c =
    let few = few_digits c.from.result (omega (arith, c.from.ensures)) in
    omega (arith, few, c.write_digits-start.ensures.start)

pub copy_from_slice-requires : goal.copy_from_slice-requires
copy_from_slice-requires c =
    let few = few_digits c.from.result (omega (arith, c.from.ensures)) in
    let start = c.write_digits-start.result in
    let room = c.write_digits-start.new.buf in
    omega (arith, few, c.write_digits-start.ensures.start, length-take (start - (start - 3)) (drop (start - 3) room), length-drop (start - 3) room)
