use Rattle.serv_top.specs.Lines.{asks, errs}
use Rattle.serv_top.proofs.said.said_in.Goals as goal

pub returns-in-Ok-clause-says : goal.returns-in-Ok-clause-says
returns-in-Ok-clause-says c = asks c.in-Ok.request c.in-Ok.ensures.well c.in-Ok.ensures.read

pub returns-in-Err-clause-says : goal.returns-in-Err-clause-says
returns-in-Err-clause-says c = errs c.in-Err.fault.0 c.in-Err.ensures.fault
