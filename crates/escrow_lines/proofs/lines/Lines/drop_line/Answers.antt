use Rattle.std.proofs.Common.{◌≡◌, List, Some, None, true, false, refl, sym, ap, subst, ◌∙◌}
use Rattle.std.specs.List.{list_any, position}
use Rattle.escrow_lines.specs.declared.line.Line.{Line}
use Rattle.escrow_lines.specs.BillLists.{has_id, without_line, AreLines}
use Rattle.escrow_lines.proofs.LineLemmas.{present, absent, remove_place, are_without}
use Rattle.escrow_lines.proofs.lines.Lines.drop_line.Goals as goal

pub invariant_of-self : goal.invariant_of-self
invariant_of-self c =
    let at : Some c.in-Some.place ≡ position (has_id c.args.id) c.self.inside.kept.items = c.in-Some.ensures ∙ ap (position (has_id c.args.id)) c.deref.ensures.0 in
    subst AreLines (sym (c.remove.ensures.items ∙ remove_place c.args.id c.in-Some.place c.self.inside.kept.items c.self.invariant.distinct at)) (are_without c.args.id c.self.inside.kept.items c.self.invariant)

pub returns-in-Some-clause-fault : goal.returns-in-Some-clause-fault
returns-in-Some-clause-fault c =
    let at : Some c.in-Some.place ≡ position (has_id c.args.id) c.self.inside.kept.items = c.in-Some.ensures ∙ ap (position (has_id c.args.id)) c.deref.ensures.0 in
    subst (λ (xs : List Line). list_any (has_id c.args.id) xs ≡ true) c.self.view_is (present c.args.id c.in-Some.place c.self.inside.kept.items at)

pub returns-in-Some-clause-ok : goal.returns-in-Some-clause-ok
returns-in-Some-clause-ok c =
    let at : Some c.in-Some.place ≡ position (has_id c.args.id) c.self.inside.kept.items = c.in-Some.ensures ∙ ap (position (has_id c.args.id)) c.deref.ensures.0 in
    c.remove.ensures.items ∙ remove_place c.args.id c.in-Some.place c.self.inside.kept.items c.self.invariant.distinct at ∙ ap (without_line c.args.id) c.self.view_is

pub returns-in-None-clause-fault : goal.returns-in-None-clause-fault
returns-in-None-clause-fault c =
    let at : None ≡ position (has_id c.args.id) c.self.inside.kept.items = c.in-None.ensures ∙ ap (position (has_id c.args.id)) c.deref.ensures.0 in
    (refl, subst (λ (xs : List Line). list_any (has_id c.args.id) xs ≡ false) c.self.view_is (absent c.args.id c.self.inside.kept.items at))
