use Rattle.std.proofs.Common.{◌≡◌, ◌∙◌, FitsSigned, w64, true, arith, sym, ap}
use Rattle.std.specs.Int.{int_min}
use Rattle.std.proofs.lemmas.Int.{ints, clamps, to_z-of_z}
use Rattle.svc_spec.specs.Payoff.{is_current}
use Rattle.pmi_track.specs.Insurance.{is_within, asked_balance}
use Rattle.pmi_track.specs.Schedule.{scheduled}
use Rattle.pmi_track.proofs.ScheduleLemmas.{scheduled_within}
use Rattle.pmi_track.proofs.RequestLemmas.{granted, denied}
use Rattle.pmi_track.proofs.request.denial_with.Goals as goal

pub returns-then-is_within : goal.returns-then-is_within
returns-then-is_within c =
    let b = c.args.books.now in
    let t = c.args.terms.now in
    let day = c.args.day in
    let low = c.requires.books.signs.upb_low in
    let high = c.requires.books.signs.upb_high in
    let most = c.requires.terms.principal_high in
    let w = scheduled_within t c.due_by.result c.requires.terms in
    let w_low = w.low in
    let w_high = w.high in
    let is : c.scheduled.result ≡ scheduled t c.due_by.result = c.scheduled.ensures in
    let fits : FitsSigned w64 b.upb = omega (arith, ints, low, high, most) in
    let fits2 : FitsSigned w64 c.scheduled.result = omega (arith, ints, is, w_low, w_high, most) in
    let fits3 : FitsSigned w64 c.args.value = c.ranges.value in
    let least : c.min-balance.result ≡ int_min b.upb c.scheduled.result = simp to_z-of_z at c.min-balance.ensures.value in
    let fits4 : FitsSigned w64 c.min-balance.result = omega (arith, ints, clamps, least, is, low, high, most, w_low, w_high) in
    let balance : c.min-balance.result ≡ asked_balance b t day = least ∙ ap (int_min b.upb) (is ∙ ap (scheduled t) c.due_by.ensures.count) in
    let current : is_current t day b ≡ true = sym c.is_current.ensures ∙ c.if-not-is_current.false in
    let tested : c.is_within.result ≡ is_within 80 c.args.value c.min-balance.result = simp to_z-of_z at c.is_within.ensures in
    granted b t day c.args.value c.min-balance.result current balance (sym tested ∙ c.if-is_within.true)

pub returns : goal.returns
returns c =
    let b = c.args.books.now in
    let t = c.args.terms.now in
    let day = c.args.day in
    let low = c.requires.books.signs.upb_low in
    let high = c.requires.books.signs.upb_high in
    let most = c.requires.terms.principal_high in
    let w = scheduled_within t c.due_by.result c.requires.terms in
    let w_low = w.low in
    let w_high = w.high in
    let is : c.scheduled.result ≡ scheduled t c.due_by.result = c.scheduled.ensures in
    let fits : FitsSigned w64 b.upb = omega (arith, ints, low, high, most) in
    let fits2 : FitsSigned w64 c.scheduled.result = omega (arith, ints, is, w_low, w_high, most) in
    let fits3 : FitsSigned w64 c.args.value = c.ranges.value in
    let least : c.min-balance.result ≡ int_min b.upb c.scheduled.result = simp to_z-of_z at c.min-balance.ensures.value in
    let fits4 : FitsSigned w64 c.min-balance.result = omega (arith, ints, clamps, least, is, low, high, most, w_low, w_high) in
    let balance : c.min-balance.result ≡ asked_balance b t day = least ∙ ap (int_min b.upb) (is ∙ ap (scheduled t) c.due_by.ensures.count) in
    let current : is_current t day b ≡ true = sym c.is_current.ensures ∙ c.if-not-is_current.false in
    let tested : c.is_within.result ≡ is_within 80 c.args.value c.min-balance.result = simp to_z-of_z at c.is_within.ensures in
    simp to_z-of_z (denied b t day c.args.value c.min-balance.result current balance (sym tested ∙ c.if-is_within.false))
