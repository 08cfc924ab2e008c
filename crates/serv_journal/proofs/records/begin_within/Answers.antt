use Rattle.std.proofs.Common.{[], ◌∷◌, ◌++◌}
use Rattle.serv_journal.specs.declared.format.Version.TheVariants.{Two}
use Rattle.serv_journal.specs.Format.{body}
use Rattle.serv_journal.proofs.PutLemmas.{put_later, before_putting, putting_later}
use Rattle.serv_journal.proofs.records.begin_within.Goals as goal

pub returns-in_err-reach-clause-moments : goal.returns-in_err-reach-clause-moments
returns-in_err-reach-clause-moments g c = before_putting g.D.Disk.view c.args.gate c.args.size _ _ c.reach_to.ensures.moments

pub returns-in_err-begin_record-clause-moments : goal.returns-in_err-begin_record-clause-moments
returns-in_err-begin_record-clause-moments g c =
    putting_later g.D.Disk.view c.args.gate c.args.size _ _ _ c.reach_to.ensures.crash c.reach_to.ensures.moments c.begin_record.ensures.moments

pub returns-clause-put : goal.returns-clause-put
returns-clause-put g c = put_later c.args.gate c.args.size (body Two c.args.number c.args.line.now ++ 0 ∷ []) _ _ _ c.reach_to.ensures.crash c.in_ok-begin_record.ensures.put

pub returns-clause-moments : goal.returns-clause-moments
returns-clause-moments g c =
    putting_later g.D.Disk.view c.args.gate c.args.size _ _ _ c.reach_to.ensures.crash c.reach_to.ensures.moments c.begin_record.ensures.moments
