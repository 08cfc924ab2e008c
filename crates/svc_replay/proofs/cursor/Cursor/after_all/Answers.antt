use Rattle.svc_replay.proofs.CursorLemmas.{after_entries}
use Rattle.svc_replay.proofs.cursor.Cursor.after_all.Goals as goal

pub returns : goal.returns
returns c = record {
  after = after_entries c.args.terms.now c.args.live.now c.args.day c.month_of.result c.args.lates.now.count c.len.result c.month_of.ensures c.len.ensures c.requires.until c.requires.lates.few c.requires.lates.over c.requires.lates.open_grace;
  next = c.requires.lates.next;
}
