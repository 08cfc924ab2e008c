use Rattle.std.proofs.Common.{arith, ◌∙◌, ◌++◌, take, length-drop}
use Rattle.std.proofs.lemmas.List.{take_rest}
use Rattle.serv_disk.proofs.Pieces.{written_more}
use Rattle.serv_disk.proofs.NotedLemmas.{held_after, notes_more, notes_wider, held_long}
use Rattle.serv_disk.proofs.sink.write_whole.Goals as goal

pub loop-at-preserved : goal.loop-at-preserved
loop-at-preserved g c =
    let said = c.in_ok-at.ensures in
    let inv = c.loop-at.invariant in
    let text = c.args.text.now in
    record {
      within = omega (arith, said.bound, length-drop c.loop-at.at text);
      wrote = written_more _ _ _ text c.loop-at.at c.in_ok-at.field-0 inv.wrote (rw take_rest at said.appended);
      later = omega (arith, said.cause.later, inv.later);
      beside = said.beside ∙ inv.beside;
      marked = said.marked ∙ inv.marked;
      noted = λ s told.
          let front = take c.loop-at.at text in
          let now = held_after _ _ s front told inv.wrote in
          notes_more _ _ s (s ++ front) c.loop-at.at _ _ _ (held_long s text c.loop-at.at inv.within) (inv.noted s told)
          (rw inv.marked at (said.noted (s ++ front) now));
    }

pub returns-in_err-at-clause-noted : goal.returns-in_err-at-clause-noted
returns-in_err-at-clause-noted g c = λ s told.
    let inv = c.loop-at.invariant in
    let text = c.args.text.now in
    rw c.in_err-at.ensures.unnoted (notes_wider _ _ _ _ _ (omega (arith, inv.within)) (inv.noted s told))
