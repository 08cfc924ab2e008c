use Rattle.std.proofs.Common.{◌≡◌, ◌∷◌, [], ◌++◌, true, sym, ap, ◌∙◌, arith}
use Rattle.std.specs.Prelude.{pos, ◌≤ℤ◌}
use Rattle.std.proofs.lemmas.Int.{ints}
use Rattle.svc_types.specs.declared.desk.HistoryLine.{HistoryLine}
use Rattle.svc_spec.specs.History.{Passed, has_line}
use Rattle.svc_replay.proofs.PlainLemmas.{cast_same, cast_less}
use Rattle.svc_replay.proofs.WalkLemmas.{cast_gap, line_same, shown_line}
use Rattle.svc_replay.proofs.history_lines.add_line.Goals as goal

pub returns : goal.returns
returns c =
    let t = c.args.terms.now in
    let lines = c.args.lines.now.items in
    let a = c.args.after.now in
    let b = c.args.before.now in
    let x = c.requires.after in
    let y = c.requires.before in
    let high = x.signs.upb_high in
    let most = c.requires.terms.principal_high in
    let upb : a.upb ≤ℤ pos 1_000_000_000_000_000_000 = omega (arith, ints) in
    let p : Passed = record { event = c.args.event.now; number = c.args.number; before = b; after = a } in
    let shown : has_line p ≡ true = sym c.is_shown.ensures ∙ c.if-not-is_shown.false in
    let line = line_same c.args.event.now.day c.args.number c.args.event.now.what _ _ _ _ _ _ _ _ _ _ _ _ _ _ _ _
    (cast_less a.interest b.interest x.signs.interest x.within.interest y.signs.interest y.within.interest)
    (cast_less a.principal b.principal x.signs.principal x.within.principal y.signs.principal y.within.principal)
    (cast_gap a.escrow b.escrow x.within.escrow_low x.within.escrow_high y.within.escrow_low y.within.escrow_high)
    (cast_less a.late_owed b.late_owed x.signs.late_owed x.within.late_owed y.signs.late_owed y.within.late_owed)
    (cast_less a.late_paid b.late_paid x.signs.late_paid x.within.late_paid y.signs.late_paid y.within.late_paid)
    (cast_less a.suspense b.suspense x.signs.suspense x.within.suspense y.signs.suspense y.within.suspense)
    (cast_same a.upb x.signs.upb_low upb)
    c.open_month-next.ensures in
    c.in_ok-push.ensures.items ∙ ap (λ (l : HistoryLine). lines ++ l ∷ []) line ∙ ap (λ ls. lines ++ ls) (sym (shown_line t p shown))
