use Rattle.std.proofs.Common.{◌+◌, ◌≤◌, vec_capacity, subst, sym}
use Rattle.svc_world.specs.Held.{with_entry}
use Rattle.svc_loan.specs.Kept.{KeptLoan}
use Rattle.svc_loan.specs.Loans.{OfLoan}
use Rattle.svc_loan.specs.Closed.{closed_cost}
use Rattle.svc_core.specs.State.{world_of}
use Rattle.svc_core.specs.Costs.{entering_cost}
use Rattle.svc_core.proofs.ChangingLemmas.{AreChanged, IsRecorded, asks_since, asks_room, later_since, later_fits, later_change, later_room, world_after, kept_after, steps_after}
use Rattle.svc_core.proofs.EnteringLemmas.{entering, may_post, few_entries}
use Rattle.svc_core.proofs.entering.enter.Goals as goal

pub copy_dues-requires-clause-since : goal.copy_dues-requires-clause-since
copy_dues-requires-clause-since g c = asks_since (entering _ _ _ _ _ _ _ c.requires.state c.requires.entry c.month_of-month.ensures)

pub copy_dues-requires-clause-room : goal.copy_dues-requires-clause-room
copy_dues-requires-clause-room g c = asks_room _ (entering _ _ _ _ _ _ _ c.requires.state c.requires.entry c.month_of-month.ensures) c.requires.dues

pub post-requires-clause-entry : goal.post-requires-clause-entry
post-requires-clause-entry g c = may_post _ _ _ _ _ _ c.requires.state c.requires.entry

pub post-requires-clause-few : goal.post-requires-clause-few
post-requires-clause-few g c = few_entries c.args.count c.args.state.now.today c.args.state.now.loans c.args.state.now.seals c.args.place.id c.args.entry.now c.requires.entry

pub record_dues-requires-clause-since : goal.record_dues-requires-clause-since
record_dues-requires-clause-since g c =
    let h = entering c.args.count c.args.state.now.today c.args.state.now.loans c.args.state.now.seals c.args.place.id c.month_of-month.result c.args.entry.now c.requires.state c.requires.entry c.month_of-month.ensures in
    let are : AreChanged c.args.place.id (with_entry c.args.entry.now) c.args.state.now.loans c.post.new.self = record { held = c.post.ensures.held; closed = c.post.ensures.closed; remitted = c.post.ensures.remitted } in
    later_since c.post.new.self h are

pub record_dues-requires-clause-dues : goal.record_dues-requires-clause-dues
record_dues-requires-clause-dues g c =
    let h = entering c.args.count c.args.state.now.today c.args.state.now.loans c.args.state.now.seals c.args.place.id c.month_of-month.result c.args.entry.now c.requires.state c.requires.entry c.month_of-month.ensures in
    let are : AreChanged c.args.place.id (with_entry c.args.entry.now) c.args.state.now.loans c.post.new.self = record { held = c.post.ensures.held; closed = c.post.ensures.closed; remitted = c.post.ensures.remitted } in
    rw c.copy_dues.ensures.capacity (later_fits c.post.new.self c.copy_dues.new.dues.items (vec_capacity c.args.dues.now) h are c.copy_dues.ensures.dues c.requires.dues)

pub record_dues-requires-clause-change : goal.record_dues-requires-clause-change
record_dues-requires-clause-change g c =
    let h = entering c.args.count c.args.state.now.today c.args.state.now.loans c.args.state.now.seals c.args.place.id c.month_of-month.result c.args.entry.now c.requires.state c.requires.entry c.month_of-month.ensures in
    let are : AreChanged c.args.place.id (with_entry c.args.entry.now) c.args.state.now.loans c.post.new.self = record { held = c.post.ensures.held; closed = c.post.ensures.closed; remitted = c.post.ensures.remitted } in
    let before = c.copy_dues.new.dues.items in
    let copied = c.copy_dues.ensures.dues in
    later_change c.post.new.self before h are copied

pub record_dues-requires-clause-room : goal.record_dues-requires-clause-room
record_dues-requires-clause-room g c =
    let h = entering c.args.count c.args.state.now.today c.args.state.now.loans c.args.state.now.seals c.args.place.id c.month_of-month.result c.args.entry.now c.requires.state c.requires.entry c.month_of-month.ensures in
    let are : AreChanged c.args.place.id (with_entry c.args.entry.now) c.args.state.now.loans c.post.new.self = record { held = c.post.ensures.held; closed = c.post.ensures.closed; remitted = c.post.ensures.remitted } in
    let before = c.copy_dues.new.dues.items in
    let copied = c.copy_dues.ensures.dues in
    later_room c.post.new.self before c.args.state.now.seals.adjustment_room h are copied c.requires.adjustments

pub returns-clause-world : goal.returns-clause-world
returns-clause-world g c =
    let h = entering c.args.count c.args.state.now.today c.args.state.now.loans c.args.state.now.seals c.args.place.id c.month_of-month.result c.args.entry.now c.requires.state c.requires.entry c.month_of-month.ensures in
    let are : AreChanged c.args.place.id (with_entry c.args.entry.now) c.args.state.now.loans c.post.new.self = record { held = c.post.ensures.held; closed = c.post.ensures.closed; remitted = c.post.ensures.remitted } in
    let before = c.copy_dues.new.dues.items in
    let copied = c.copy_dues.ensures.dues in
    let seals = c.record_dues.new.seals in
    let done : IsRecorded c.args.count c.args.place.id c.month_of-month.result before c.post.new.self c.args.state.now.seals seals = record { done = c.record_dues.ensures.done; remitted = c.record_dues.ensures.remitted } in
    world_after c.post.new.self before seals h are copied done

pub returns-clause-kept : goal.returns-clause-kept
returns-clause-kept g c =
    let h = entering c.args.count c.args.state.now.today c.args.state.now.loans c.args.state.now.seals c.args.place.id c.month_of-month.result c.args.entry.now c.requires.state c.requires.entry c.month_of-month.ensures in
    let are : AreChanged c.args.place.id (with_entry c.args.entry.now) c.args.state.now.loans c.post.new.self = record { held = c.post.ensures.held; closed = c.post.ensures.closed; remitted = c.post.ensures.remitted } in
    let before = c.copy_dues.new.dues.items in
    let seals = c.record_dues.new.seals in
    let done : IsRecorded c.args.count c.args.place.id c.month_of-month.result before c.post.new.self c.args.state.now.seals seals = record { done = c.record_dues.ensures.done; remitted = c.record_dues.ensures.remitted } in
    kept_after c.post.new.self before seals h are done

pub returns-clause-steps : goal.returns-clause-steps
returns-clause-steps g c =
    let h = entering c.args.count c.args.state.now.today c.args.state.now.loans c.args.state.now.seals c.args.place.id c.month_of-month.result c.args.entry.now c.requires.state c.requires.entry c.month_of-month.ensures in
    let are : AreChanged c.args.place.id (with_entry c.args.entry.now) c.args.state.now.loans c.post.new.self = record { held = c.post.ensures.held; closed = c.post.ensures.closed; remitted = c.post.ensures.remitted } in
    let before = c.copy_dues.new.dues.items in
    let seals = c.record_dues.new.seals in
    let done : IsRecorded c.args.count c.args.place.id c.month_of-month.result before c.post.new.self c.args.state.now.seals seals = record { done = c.record_dues.ensures.done; remitted = c.record_dues.ensures.remitted } in
    let day = c.month_of-month.ensures in
    subst (λ m. c.post.new.steps ≤ c.args.steps.now + entering_cost g.B.LoanBooks.cost g.B.LoanBooks.month_cost (world_of c.args.state.now.today c.post.new.self seals) c.args.place.id m) day
    (steps_after c.post.new.self before seals g.B.LoanBooks.cost g.B.LoanBooks.month_cost c.post.new.steps c.args.steps.now h are done
    (subst (λ m. OfLoan c.args.place.id c.post.new.self.loans (λ (k : KeptLoan). c.post.new.steps ≤ c.args.steps.now + g.B.LoanBooks.cost k.held.account m + closed_cost g.B.LoanBooks.month_cost k.held.account k.closed m)) (sym day) c.post.ensures.steps))
