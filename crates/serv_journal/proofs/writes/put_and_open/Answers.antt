use Rattle.std.proofs.Common.{◌+◌, length, arith}
use Rattle.std.proofs.lemmas.Result.{on_ok_weaker}
use Rattle.serv_journal.proofs.OutcomeLemmas.{on_ok_both}
use Rattle.serv_journal.proofs.PutLemmas.{told_reaches, still_reaches, put_opened, laying_around, opening_around}
use Rattle.serv_journal.proofs.writes.put_and_open.Goals as goal

pub returns-in_err-lay-clause-moments : goal.returns-in_err-lay-clause-moments
returns-in_err-lay-clause-moments g c = laying_around g.D.Disk.view c.args.gate c.args.at _ _ c.lay.ensures.moments

pub set_byte-requires : goal.set_byte-requires
set_byte-requires g c = told_reaches _ _ c.args.bytes.now c.args.at c.args.gate c.requires.reaches c.in_ok-lay.ensures.told (omega (arith, c.requires.gate))

pub returns-clause-put : goal.returns-clause-put
returns-clause-put g c =
    on_ok_both c.set_byte.result
    (λ set only. put_opened _ _ _ _ _ c.args.gate c.args.at c.args.bytes.now (g.met.D.Disk.reads_image c.args.disk.now) c.in_ok-lay.ensures.told set only)
    c.set_byte.ensures.told c.set_byte.ensures.only

pub returns-clause-moments : goal.returns-clause-moments
returns-clause-moments g c = opening_around g.D.Disk.view c.args.gate c.args.at _ _ _ c.lay.ensures.crash c.lay.ensures.moments c.set_byte.ensures.moments

pub returns-clause-reach : goal.returns-clause-reach
returns-clause-reach g c =
    on_ok_weaker c.set_byte.result
    (λ set. still_reaches _ _ _ c.args.gate (c.args.at + length c.args.bytes.now) (omega (arith, c.requires.gate))
    (told_reaches _ _ c.args.bytes.now c.args.at (c.args.at + length c.args.bytes.now) c.requires.reaches c.in_ok-lay.ensures.told (omega arith)) set)
    c.set_byte.ensures.told
