use Rattle.std.proofs.Common.{◌≡◌, ◌+◌, ◌≤◌, length, refl, sym, ap, ◌∙◌, arith}
use Rattle.svc_base.specs.Calendar.{month_of}
use Rattle.svc_types.proofs.OrderLemmas.{live_all}
use Rattle.svc_spec.specs.Accounts.{live_of}
use Rattle.svc_spec.specs.Months.{counted}
use Rattle.svc_replay.specs.Kept.{Kept}
use Rattle.svc_checkpoint.proofs.EndsLemmas.{own_day, place_in, lates_at, checked_advance, within_advance}
use Rattle.svc_checkpoint.proofs.QuietLemmas.{IsQuietTo, quiet_checked, quiet_steps}
use Rattle.svc_checkpoint.proofs.checked.CheckedLoanBooks.advance.Goals as goal

pub push_on-requires-clause-after : goal.push_on-requires-clause-after
push_on-requires-clause-after g c =
    let own = own_day c.self.inside.kept.account.terms (live_of c.self.inside.kept.account) c.self.inside.kept.account.today c.self.inside.now c.self.invariant.now in
    let day = own.0 in
    let after = c.self.invariant.account.after in
    omega arith

pub push_on-requires-clause-until : goal.push_on-requires-clause-until
push_on-requires-clause-until g c =
    let same : c.args.self.now.account ≡ c.self.inside.kept.account = ap (λ (k : Kept). k.account) (sym c.self.view_is) in
    let own = own_day c.self.inside.kept.account.terms (live_of c.self.inside.kept.account) c.self.inside.kept.account.today c.self.inside.now c.self.invariant.now in
    let day = own.0 in
    let later = rw same at c.requires in
    omega arith

pub push_on-requires-clause-books : goal.push_on-requires-clause-books
push_on-requires-clause-books g c =
    let own = own_day c.self.inside.kept.account.terms (live_of c.self.inside.kept.account) c.self.inside.kept.account.today c.self.inside.now c.self.invariant.now in
    let day = own.0 in
    own.1

pub push_on-requires-clause-count : goal.push_on-requires-clause-count
push_on-requires-clause-count g c =
    let own = own_day c.self.inside.kept.account.terms (live_of c.self.inside.kept.account) c.self.inside.kept.account.today c.self.inside.now c.self.invariant.now in
    let day = own.0 in
    let count = c.self.invariant.count in
    let month = ap month_of day in
    omega (arith, ap length c.in_ok-make_room.ensures.items)

pub push_on-requires-clause-room : goal.push_on-requires-clause-room
push_on-requires-clause-room g c =
    let own = own_day c.self.inside.kept.account.terms (live_of c.self.inside.kept.account) c.self.inside.kept.account.today c.self.inside.now c.self.invariant.now in
    let day = own.0 in
    let month = ap month_of day in
    let today = ap month_of c.today.ensures in
    omega (arith, c.in_ok-make_room.ensures.ok, c.months_between.ensures)

pub after_all-cursor-requires-clause-until : goal.after_all-cursor-requires-clause-until
after_all-cursor-requires-clause-until g c =
    let a = c.self.inside.kept.account in
    rw (c.live.ensures, c.today-2.ensures) (live_all (λ x. x.day ≤ a.today) a.entries a.reversals c.self.invariant.account.until)

pub after_all-cursor-requires-clause-lates : goal.after_all-cursor-requires-clause-lates
after_all-cursor-requires-clause-lates g c = rw (c.terms.ensures, c.today-2.ensures) c.self.invariant.lates

pub push_on-requires-clause-place : goal.push_on-requires-clause-place
push_on-requires-clause-place g c =
    let a = c.self.inside.kept.account in
    let own = own_day a.terms (live_of a) a.today c.self.inside.now c.self.invariant.now in
    place_in a c.terms.result.now c.live.result c.today-2.result c.self.inside.now.day c.after_all-cursor.result c.terms.ensures c.live.ensures (own.0 ∙ sym c.today-2.ensures) c.after_all-cursor.ensures

pub invariant_of-self-2 : goal.invariant_of-self-2
invariant_of-self-2 g c =
    let same : c.args.self.now.account ≡ c.self.inside.kept.account = ap (λ (k : Kept). k.account) (sym c.self.view_is) in
    checked_advance c.self.inside.kept.account c.advance-2.new.self.account c.args.today c.push_on.new.ends.items c.push_on.new.now c.lates-self-inside.result c.self.invariant.account c.day-place.ensures.exists (rw same at c.requires) c.advance-2.ensures.account c.push_on.ensures.count c.push_on.ensures.ends c.push_on.ensures.books c.push_on.ensures.sound (lates_at c.self.inside.kept.account.terms (live_of c.self.inside.kept.account) c.args.today c.push_on.new.cursor c.lates-self-inside.result c.push_on.ensures.place c.lates-self-inside.ensures)

pub returns-clause-steps : goal.returns-clause-steps
returns-clause-steps g c =
    let same : c.args.self.now.account ≡ c.self.inside.kept.account = ap (λ (k : Kept). k.account) (sym c.self.view_is) in
    let own = own_day c.self.inside.kept.account.terms (live_of c.self.inside.kept.account) c.self.inside.kept.account.today c.self.inside.now c.self.invariant.now in
    let day = own.0 in
    let a = c.self.inside.kept.account in
    let here = ap (counted a.terms (live_of a)) day in
    rw same (within_advance a c.advance-2.new.self.account c.args.today c.args.steps.now c.push_on.new.steps c.self.invariant.account (rw same at c.requires) c.advance-2.ensures.account (ap (λ x. c.push_on.new.steps + x) (sym here) ∙ c.push_on.ensures.steps))

pub invariant_of-self : goal.invariant_of-self
invariant_of-self g c =
    let same : c.args.self.now.account ≡ c.self.inside.kept.account = ap (λ (k : Kept). k.account) (sym c.self.view_is) in
    let quiet : IsQuietTo c.self.inside.kept.account c.args.today c.self.inside.lates = record {
      later = rw same at c.requires;
      month = c.is_quiet_to.ensures.month c.if-is_quiet_to.true;
      late = c.is_quiet_to.ensures.late c.if-is_quiet_to.true;
    } in
    quiet_checked c.self.inside.kept.account c.advance.new.self.account c.args.today c.self.inside.ends.items c.self.inside.now _ c.self.inside.lates c.self.invariant c.day-place.ensures.exists quiet c.advance.ensures.account refl

pub returns-then-is_quiet_to-clause-steps : goal.returns-then-is_quiet_to-clause-steps
returns-then-is_quiet_to-clause-steps g c =
    let same : c.args.self.now.account ≡ c.self.inside.kept.account = ap (λ (k : Kept). k.account) (sym c.self.view_is) in
    let quiet : IsQuietTo c.self.inside.kept.account c.args.today c.self.inside.lates = record {
      later = rw same at c.requires;
      month = c.is_quiet_to.ensures.month c.if-is_quiet_to.true;
      late = c.is_quiet_to.ensures.late c.if-is_quiet_to.true;
    } in
    rw same (within_advance c.self.inside.kept.account c.advance.new.self.account c.args.today c.args.steps.now c.args.steps.now c.self.invariant.account (rw same at c.requires) c.advance.ensures.account (quiet_steps c.self.inside.kept.account c.args.today c.args.steps.now c.self.inside.lates c.self.invariant.account c.self.invariant.lates quiet))
