use Rattle.std.proofs.Common.{◌≡◌, ◌≤◌, List, [], ◌∷◌, length, Some, None, refl, sym, ap, subst, set, ◌∙◌, arith, length-set, length-append}
use Rattle.std.specs.List.{position, refill}
use Rattle.escrow_lines.specs.declared.line.Line.{Line}
use Rattle.escrow_lines.specs.declared.line.EscrowLineFault.TheVariants.{Full}
use Rattle.escrow_lines.specs.BillLists.{has_id, with_line, set_fault, AreLines}
use Rattle.escrow_lines.proofs.LineLemmas.{present, absent, set_place, push_absent, are_with, refill_same, set_full, set_known, sixteen, below_sixteen}
use Rattle.escrow_lines.proofs.lines.Lines.set.Goals as goal

pub invariant_of-self : goal.invariant_of-self
invariant_of-self c =
    let items : List Line = c.self.inside.kept.items in
    let at : Some c.in-Some-place_of.place ≡ position (has_id c.args.line.id) items = c.in-Some-place_of.ensures ∙ ap (position (has_id c.args.line.id)) c.deref.ensures.0 in
    let path : refill (length items) items (set c.deref_mut.result.now c.in-Some-place_of.place c.args.line) ≡ with_line c.args.line items = ap (λ (xs : List Line). refill (length items) items (set xs c.in-Some-place_of.place c.args.line)) c.deref_mut.ensures.value ∙ refill_same items (set items c.in-Some-place_of.place c.args.line) (length-set items c.in-Some-place_of.place c.args.line) ∙ set_place c.args.line c.in-Some-place_of.place items at in
    let few : length (with_line c.args.line items) ≤ 16 = omega (arith, c.self.invariant.few, ap length (set_place c.args.line c.in-Some-place_of.place items at), length-set items c.in-Some-place_of.place c.args.line) in
    subst AreLines (sym path) (are_with c.args.line items c.self.invariant (c.in_default.ensures.bill refl) few)

pub returns-in-None-clause-fault : goal.returns-in-None-clause-fault
returns-in-None-clause-fault c =
    let at : None ≡ position (has_id c.args.line.id) c.self.inside.kept.items = c.in-None.ensures ∙ ap (position (has_id c.args.line.id)) c.deref.ensures.0 in
    subst (λ (xs : List Line). set_fault c.args.line xs ≡ Some Full) c.self.view_is (set_full c.args.line c.self.inside.kept.items c.in_default.ensures.value (sixteen (length c.self.inside.kept.items) c.if-is_full.ensures.value) (absent c.args.line.id c.self.inside.kept.items at))

pub invariant_of-self-in-None-2 : goal.invariant_of-self-in-None-2
invariant_of-self-in-None-2 c =
    let items : List Line = c.self.inside.kept.items in
    let at : None ≡ position (has_id c.args.line.id) items = c.in-None-2.ensures ∙ ap (position (has_id c.args.line.id)) c.deref.ensures.0 in
    let path : c.push.new.self.items ≡ with_line c.args.line items = c.push.ensures.items ∙ push_absent c.args.line items (absent c.args.line.id items at) in
    let few : length (with_line c.args.line items) ≤ 16 = omega (arith, below_sixteen (length items) c.if-is_full.ensures.value c.self.invariant.few, ap length (push_absent c.args.line items (absent c.args.line.id items at)), length-append items (c.args.line ∷ [])) in
    subst AreLines (sym path) (are_with c.args.line items c.self.invariant (c.in_default.ensures.bill refl) few)

pub returns-in-Some-place_of-clause-fault : goal.returns-in-Some-place_of-clause-fault
returns-in-Some-place_of-clause-fault c =
    let at : Some c.in-Some-place_of.place ≡ position (has_id c.args.line.id) c.self.inside.kept.items = c.in-Some-place_of.ensures ∙ ap (position (has_id c.args.line.id)) c.deref.ensures.0 in
    subst (λ (xs : List Line). set_fault c.args.line xs ≡ None) c.self.view_is (set_known c.args.line c.self.inside.kept.items c.in_default.ensures.value (present c.args.line.id c.in-Some-place_of.place c.self.inside.kept.items at))

pub returns-in-Some-place_of-clause-ok : goal.returns-in-Some-place_of-clause-ok
returns-in-Some-place_of-clause-ok c =
    let items : List Line = c.self.inside.kept.items in
    let at : Some c.in-Some-place_of.place ≡ position (has_id c.args.line.id) items = c.in-Some-place_of.ensures ∙ ap (position (has_id c.args.line.id)) c.deref.ensures.0 in
    ap (λ (xs : List Line). refill (length items) items (set xs c.in-Some-place_of.place c.args.line)) c.deref_mut.ensures.value ∙ refill_same items (set items c.in-Some-place_of.place c.args.line) (length-set items c.in-Some-place_of.place c.args.line) ∙ set_place c.args.line c.in-Some-place_of.place items at ∙ ap (with_line c.args.line) c.self.view_is

pub returns-in-None-2-clause-ok : goal.returns-in-None-2-clause-ok
returns-in-None-2-clause-ok c =
    let items : List Line = c.self.inside.kept.items in
    let at : None ≡ position (has_id c.args.line.id) items = c.in-None-2.ensures ∙ ap (position (has_id c.args.line.id)) c.deref.ensures.0 in
    c.push.ensures.items ∙ push_absent c.args.line items (absent c.args.line.id items at) ∙ ap (with_line c.args.line) c.self.view_is
