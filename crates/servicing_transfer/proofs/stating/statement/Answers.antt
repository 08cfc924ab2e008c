use Rattle.std.specs.Vec.{vec_len}
use Rattle.std.proofs.Common.{to_z, of_z, rules, ◌≡◌, ◌++◌, arith, length, sym, ap, ◌∙◌}
use Rattle.std.specs.Int.{w64, w128}
use Rattle.std.specs.Prelude.{map, FitsSigned}
use Rattle.std.proofs.lemmas.Int.{to_z-of_z}
use Rattle.std.specs.List.{flat_map}
use Rattle.serv_line.specs.Replies.{ended}
use Rattle.svc_world.specs.declared.custody.Custody.{Custody}
use Rattle.svc_world.specs.World.{world}
use Rattle.servicing_transfer.specs.StatementTexts.{heading_line, loan_line, total_line}
use Rattle.servicing_transfer.proofs.CoreLines.{few_loans, t_is, p_is}
use Rattle.servicing_transfer.proofs.LineTexts.{statement_text, as_passed}
use Rattle.servicing_transfer.proofs.stating.statement.Goals as goal

pub overflow_cast-len : goal.overflow_cast-len
overflow_cast-len g c =
    let len = c.len.ensures in
    let lines = ap length c.in_ok-lines.ensures.lines in
    let few = few_loans c.args.core.now.history c.history_holds.ensures.history in
    omega (arith, len, lines, few)

pub returns-clause-text : goal.returns-clause-text
returns-clause-text g c =
    let w = world c.args.core.now.history in
    let o1 = c.push_heading.new.out.items in
    let o2 = c.push_lines.new.out.items in
    let n = c.len.result in
    let items : vec_len c.in_ok-lines.lines ≡ length c.in_ok-lines.lines.items = search rules in
    let t_fits : FitsSigned w64 c.in_ok-custody.custody.t = search rules in
    let p_fits : FitsSigned w64 c.in_ok-custody.custody.p = search rules in
    let o3 = c.push_total.new.out.items in
    let t_wide : FitsSigned w128 c.from.result = search rules in
    let p_wide : FitsSigned w128 c.from-2.result = search rules in
    statement_text w n c.from.result c.from-2.result o1 o2 c.push_total.new.out.items c.push_bytes.new.out.items
    (c.len.ensures ∙ items ∙ ap length c.in_ok-lines.ensures.lines)
    (c.from.ensures ∙ to_z-of_z w64 c.in_ok-custody.custody.t t_fits ∙ ap (λ (x : Custody). x.t) c.in_ok-custody.ensures.custody ∙ sym (t_is w))
    (c.from-2.ensures ∙ to_z-of_z w64 c.in_ok-custody.custody.p p_fits ∙ ap (λ (x : Custody). x.p) c.in_ok-custody.ensures.custody ∙ sym (p_is w))
    (c.in_ok-push_heading.ensures ∙ ap (λ x. x ++ ended (heading_line c.today.result n)) c.new-out.ensures.items ∙ ap (λ d. ended (heading_line d n)) c.today.ensures)
    (c.in_ok-push_lines.ensures ∙ ap (λ ls. o1 ++ flat_map ended (map loan_line ls)) (c.deref.ensures.value ∙ c.in_ok-lines.ensures.lines))
    (as_passed (λ v. o3 ≡ o2 ++ total_line v c.from-2.result) c.from.result t_wide (as_passed (λ v. o3 ≡ o2 ++ total_line (to_z w128 (of_z w128 c.from.result)) v) c.from-2.result p_wide c.in_ok-push_total.ensures))
    c.in_ok-push_bytes.ensures.pushed
