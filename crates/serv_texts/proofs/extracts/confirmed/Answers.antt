use Rattle.std.proofs.Common.{subst}
use Rattle.servicing_transfer.specs.Stated.{IsBadLine, IsConfirmFault}
use Rattle.serv_texts.specs.Extracts.{faulty}
use Rattle.serv_texts.proofs.TextLemmas.{ok_map}
use Rattle.serv_texts.proofs.extracts.confirmed.Goals as goal

pub returns-in-Err-BadLine-clause-text : goal.returns-in-Err-BadLine-clause-text
returns-in-Err-BadLine-clause-text g c =
    let line = c.in-Err-BadLine.line in
    let bad : IsBadLine c.args.input.now line = subst (IsConfirmFault c.args.input.now) c.in-Err-BadLine.field-0-is c.in-Err-BadLine.ensures.fault in
    ok_map c.bad_line.result (λ text is. faulty line bad is) c.bad_line.ensures
