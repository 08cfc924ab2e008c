use Rattle.std.proofs.Common.{sym}
use Rattle.std.specs.BTreeMap.{get}
use Rattle.bank_recon.specs.Keys.{place_cmp}
use Rattle.bank_recon.proofs.KeyLemmas.{noted_after, noted_before}
use Rattle.bank_recon.proofs.reasons.Notes.note.Goals as goal

pub returns-then-contains_key : goal.returns-then-contains_key
returns-then-contains_key c = λ q.
    noted_before (get place_cmp c.args.self.now.notes) c.args.item.now q c.args.reason c.place_of-place.result c.place_of-place.ensures (sym c.if-contains_key.ensures)

pub returns : goal.returns
returns c = λ q.
    noted_after (get place_cmp c.args.self.now.notes) (get place_cmp c.insert.new.self) c.args.item.now q c.args.reason c.place_of-place.result
    c.place_of-place.ensures (sym c.if-contains_key.ensures) c.in_ok-insert.ensures.updates.0
