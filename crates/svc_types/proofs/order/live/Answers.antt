use Rattle.std.proofs.Common.{◌≡◌, sym, ◌∙◌, subst, ap, arith, false, true}
use Rattle.std.specs.Prelude.{◌==◌, take}
use Rattle.std.specs.List.{AllPairs, filter, list_any}
use Rattle.std.specs.List.Sorted.{IsPermutation}
use Rattle.svc_types.specs.Live.{in_order, is_live, is_reversed, placed}
use Rattle.svc_types.proofs.OrderLemmas.{follows, ordered_order, live_more, live_same, live_whole, live_order, live_moves}
use Rattle.svc_types.proofs.order.live.Goals as goal
use Rattle.svc_types.proofs.order.live.Goals.{then-not-is_among+in_ok-insert, else-not-is_among}

pub place_of-requires : goal.place_of-requires
place_of-requires c =
    let so_far : c.deref-then-not-is_among.result.now ≡ in_order (filter (is_live c.args.reversed.now) (take c.loop-entry.entry-index c.args.entries.now)) = c.deref-then-not-is_among.ensures.value ∙ c.loop-entry.invariant in
    subst (AllPairs follows) (sym so_far) (ordered_order (filter (is_live c.args.reversed.now) (take c.loop-entry.entry-index c.args.entries.now)))

pub loop-entry-preserved : goal.loop-entry-preserved
loop-entry-preserved c =
    let e = c.entry-item.result in
    let named : c.is_among.result ≡ is_reversed c.args.reversed.now e.number = c.is_among.ensures ∙ ap (list_any (λ x. x == e.number)) c.deref.ensures.value ∙ c.in_ok-numbers.ensures.same e.number in
    elim c.if-not-is_among.branch [
      | then-not-is_among+in_ok-insert w ↦
          let free : is_reversed c.args.reversed.now e.number ≡ false = sym named ∙ w.if-not-is_among.true in
          let place = rw w.deref-then-not-is_among.ensures.value at w.place_of.ensures.placed in
          let more = live_more c.args.entries.now c.args.reversed.now c.loop-entry.entry-index e c.loop-entry-test.true c.entry-item.is free in
          let items : c.if-not-is_among.found.items ≡ w.insert.new.self.items = cc in
          items ∙ w.in_ok-insert.ensures.items ∙ place ∙ ap (placed e) c.loop-entry.invariant ∙ sym more
      | else-not-is_among w ↦
          let taken : is_reversed c.args.reversed.now e.number ≡ true = sym named ∙ w.if-not-is_among.false in
          let items : c.if-not-is_among.found.items ≡ c.loop-entry.found.items = cc in
          items ∙ c.loop-entry.invariant ∙ sym (live_same c.args.entries.now c.args.reversed.now c.loop-entry.entry-index e c.loop-entry-test.true c.entry-item.is taken)
    ]

pub returns-clause-live : goal.returns-clause-live
returns-clause-live c = c.loop-entry.invariant ∙ live_whole c.args.entries.now c.args.reversed.now c.loop-entry.entry-index (omega arith)

pub returns-clause-order : goal.returns-clause-order
returns-clause-order c = subst (AllPairs follows) (sym (returns-clause-live c)) (live_order c.args.entries.now c.args.reversed.now)

pub returns-clause-those : goal.returns-clause-those
returns-clause-those c = subst (IsPermutation (filter (is_live c.args.reversed.now) c.args.entries.now)) (sym (returns-clause-live c)) (live_moves c.args.entries.now c.args.reversed.now)
