use Rattle.std.specs.Fmt.{digits}
use Rattle.serv_links.specs.Meanings.{response_500, response_503}
use Rattle.serv_links.proofs.RoundLemmas.{front_by}
use Rattle.serv_links.proofs.closing.write_last.Goals as goal

pub returns-in-DiskFault-clause-front : goal.returns-in-DiskFault-clause-front
unfolding response_500 digits
returns-in-DiskFault-clause-front g c = rw c.in-DiskFault.is (front_by _ c.write_beside.result _ _ _ c.write_beside.ensures.whole c.write_beside.ensures.part c.write_beside.ensures.cause.failed)

pub returns-in-DiskFault-clause-noted : goal.returns-in-DiskFault-clause-noted
unfolding response_500 digits
returns-in-DiskFault-clause-noted g c = rw c.in-DiskFault.is c.write_beside.ensures.noted

pub returns-in-OutOfMemory-clause-front : goal.returns-in-OutOfMemory-clause-front
unfolding response_503 digits
returns-in-OutOfMemory-clause-front g c =
    rw c.in-OutOfMemory.is
    (front_by _ c.write_beside-in-OutOfMemory.result _ _ _ c.write_beside-in-OutOfMemory.ensures.whole c.write_beside-in-OutOfMemory.ensures.part c.write_beside-in-OutOfMemory.ensures.cause.failed)

pub returns-in-OutOfMemory-clause-noted : goal.returns-in-OutOfMemory-clause-noted
unfolding response_503 digits
returns-in-OutOfMemory-clause-noted g c = rw c.in-OutOfMemory.is c.write_beside-in-OutOfMemory.ensures.noted
