use Rattle.std.proofs.Common.{sym}
use Rattle.svc_core.proofs.AskLemmas.{held_found, held_missing, found_on_day}
use Rattle.svc_core.proofs.asking.loan_named.Goals as goal

pub returns-in-Some-clause-found : goal.returns-in-Some-clause-found
returns-in-Some-clause-found g c = held_found c.args.id c.args.state.now.loans.loans c.in-Some.loan.now (sym c.in-Some.ensures)

pub returns-in-Some-clause-today : goal.returns-in-Some-clause-today
returns-in-Some-clause-today g c = found_on_day c.args.state.now.today c.args.id c.args.state.now.loans.loans c.in-Some.loan.now c.requires (sym c.in-Some.ensures)

pub returns-in-None-clause-missing : goal.returns-in-None-clause-missing
returns-in-None-clause-missing g c = held_missing c.args.id c.args.state.now.loans.loans (sym c.in-None.ensures)
