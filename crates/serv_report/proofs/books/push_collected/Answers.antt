use Rattle.std.proofs.Common.{rules, append_assoc}
use Rattle.std.proofs.lemmas.Result.{IfOk-equal, on_err_weaker}
use Rattle.serv_line.specs.Pushed.{Keeps}
use Rattle.serv_line.proofs.KeepLemmas.{keeps_before}
use Rattle.serv_report.specs.Texts.{text_of_collected}
use Rattle.serv_report.proofs.books.push_collected.Goals as goal

pub returns-clause-pushed : goal.returns-clause-pushed
unfolding text_of_collected
returns-clause-pushed c = search (rules, IfOk-equal, append_assoc)

pub returns-in_err-push_unsigned_field-3-clause-kept : goal.returns-in_err-push_unsigned_field-3-clause-kept
returns-in_err-push_unsigned_field-3-clause-kept c =
    let kept : Keeps c.args.out.now.items c.push_unsigned_field-3.new.out.items =
    keeps_before _ _ _ _ c.in_ok-push_unsigned_field.ensures.pushed
    (keeps_before _ _ _ _ c.in_ok-push_unsigned_field-2.ensures.pushed c.in_err-push_unsigned_field-3.ensures.kept) in
    search rules

pub returns-clause-kept : goal.returns-clause-kept
returns-clause-kept c =
    on_err_weaker c.push_unsigned_field-4.result
    (λ k. keeps_before _ _ _ _ c.in_ok-push_unsigned_field.ensures.pushed
    (keeps_before _ _ _ _ c.in_ok-push_unsigned_field-2.ensures.pushed
    (keeps_before _ _ _ _ c.in_ok-push_unsigned_field-3.ensures.pushed k)))
    c.push_unsigned_field-4.ensures.kept
