use Rattle.std.proofs.Common.{sym, subst, arith}
use Rattle.serv_journal.specs.Format.{IsLine}
use Rattle.serv_journal.specs.Reading.{lines_in}
use Rattle.serv_journal.proofs.ScanLemmas.{length_lines_in}
use Rattle.serv_journal.proofs.UpgradeLemmas.{line_is}
use Rattle.serv_journal.proofs.upgrading.line_of.Goals as goal

pub returns-clause-is_line : goal.returns-clause-is_line
returns-clause-is_line c =
    subst IsLine (sym c.line.ensures) (line_is (lines_in c.args.frames.now) c.args.i (omega (arith, length_lines_in c.args.frames.now, c.requires.index)) c.requires.lines)
