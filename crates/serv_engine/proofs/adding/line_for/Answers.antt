use Rattle.serv_engine.proofs.HistoryLines.{written_is_line}
use Rattle.serv_engine.proofs.adding.line_for.Goals as goal

pub returns-clause-is_line : goal.returns-clause-is_line
returns-clause-is_line c = written_is_line c.in_ok-line.line.items c.args.key.now c.bytes.result.now c.args.command.now c.bytes.ensures.value c.bytes.ensures.key c.requires c.in_ok-line.ensures
