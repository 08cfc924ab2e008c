use Rattle.std.proofs.Common.{◌≡◌, ap, sym, subst, ◌∙◌}
use Rattle.std.specs.List.{AllPairs}
use Rattle.svc_world.specs.World.{world}
use Rattle.servicing_transfer.specs.Stated.{rises}
use Rattle.servicing_transfer.specs.Confirmations.{text_of_differences}
use Rattle.servicing_transfer.specs.declared.confirm_fault.ConfirmFault.TheVariants.{OutOfMemory}
use Rattle.servicing_transfer.proofs.CoreLines.{lines_rise}
use Rattle.servicing_transfer.proofs.FitsLemmas.{only_memory}
use Rattle.servicing_transfer.proofs.ReadLemmas.{fault_told}
use Rattle.servicing_transfer.proofs.confirming.confirm.Goals as goal

pub differences-requires-clause-text : goal.differences-requires-clause-text
differences-requires-clause-text g c = c.in_ok-statement.ensures.read.loans.rising

pub differences-requires-clause-books : goal.differences-requires-clause-books
differences-requires-clause-books g c = subst (AllPairs rises) (sym (c.deref.ensures.value ∙ c.in_ok-books.ensures.lines)) (lines_rise c.args.core.now.history c.history_holds.ensures.history)

pub returns-clause-text : goal.returns-clause-text
returns-clause-text g c =
    let st = c.in_ok-statement.statement in
    let w = world c.args.core.now.history in
    record {
      day = st.day;
      stated = st.lines.items;
      statement = c.in_ok-statement.ensures.read;
      differences = c.in_ok-written.ensures ∙ ap (λ d. text_of_differences st.day st.lines.items d c.deref.result.now) c.today.ensures
          ∙ ap (text_of_differences st.day st.lines.items w.today) (c.deref.ensures.value ∙ c.in_ok-books.ensures.lines);
    }

pub returns-in_err-statement-clause-accepted : goal.returns-in_err-statement-clause-accepted
returns-in_err-statement-clause-accepted g c = λ day stated h. fault_told (λ why. why ≡ OutOfMemory) c.from_residual.result _ c.from_residual.ensures.1 (only_memory c.args.text.now _ c.in_err-statement.ensures.fault day stated h)
