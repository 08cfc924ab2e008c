use Rattle.std.proofs.Common.{◌++◌, ap, ◌∙◌}
use Rattle.std.specs.Prelude.{codes}
use Rattle.servicing_transfer.specs.Differences.{lines_about}
use Rattle.servicing_transfer.proofs.DifferenceLemmas.{differences_text}
use Rattle.servicing_transfer.proofs.confirming.differences.Goals as goal

pub returns : goal.returns
returns c =
    let st = c.args.statement.now in
    let o3 = c.push_bytes-3.new.out.items in
    differences_text st.day c.args.today c.eq.result st.lines.items c.args.books.now c.push_bytes.new.out.items c.push_bytes-2.new.out.items o3 c.push_loans.new.out.items c.push_bytes-4.new.out.items c.word_of_same.result.now
    c.eq.ensures c.word_of_same.ensures (c.in_ok-push_bytes.ensures.pushed ∙ ap (λ x. x ++ codes "day ") c.new-out.ensures.items) c.in_ok-push_bytes-2.ensures.pushed c.in_ok-push_bytes-3.ensures.pushed
    (c.in_ok-push_loans.ensures ∙ ap (λ t. o3 ++ lines_about t c.args.books.now) c.deref.ensures.value) c.in_ok-push_bytes-4.ensures.pushed
