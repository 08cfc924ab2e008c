use Rattle.std.proofs.Common.{◌++◌, take, length-append, arith}
use Rattle.std.proofs.KnownBytes.{Consumes-trans}
use Rattle.serv_texts.proofs.reading.read_all.Goals as goal

pub returns-then-is_err-clause-unread : goal.returns-then-is_err-clause-unread
returns-then-is_err-clause-unread g c =
    let more = take c.in-Ok.n c.read_some.new.room in (
      c.loop-room.bytes.items ++ more,
      Consumes-trans _ _ _ _ _ c.loop-room.invariant.taken c.in-Ok.ensures.taken,
      omega (arith, length-append c.loop-room.bytes.items more, c.in-Ok.ensures.count, c.in-Ok.ensures.bound, c.min-most.ensures, c.len-in-loop-room.ensures, c.loop-room.invariant.within),
    )
