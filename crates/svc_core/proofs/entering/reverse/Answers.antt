use Rattle.std.proofs.Common.{◌+◌, ◌≤◌, vec_capacity, subst, sym, ◌∙◌}
use Rattle.svc_loan.specs.Closed.{closed_cost}
use Rattle.svc_loan.specs.Kept.{KeptLoan}
use Rattle.svc_loan.specs.Loans.{OfLoan}
use Rattle.svc_core.specs.State.{world_of}
use Rattle.svc_core.proofs.ChangingLemmas.{IsRecorded, asks_since, asks_room, later_since, later_fits, later_change, later_room, world_after, kept_after, steps_after}
use Rattle.svc_core.proofs.ReversingLemmas.{reversing, entry_is_there, reversed, are_reversed, reversed_cost, reversed_world}
use Rattle.svc_core.proofs.entering.reverse.Goals as goal

pub entry_there-entry-requires-clause-entry : goal.entry_there-entry-requires-clause-entry
entry_there-entry-requires-clause-entry g c = entry_is_there (reversing _ _ _ _ _ _ c.requires.state c.requires.fresh)

pub copy_dues-requires-clause-since : goal.copy_dues-requires-clause-since
copy_dues-requires-clause-since g c =
    let r = reversed c.month_of-month.result c.entry_there-entry.result (reversing c.args.count c.args.state.now.today c.args.state.now.loans c.args.state.now.seals c.args.place.id c.args.number c.requires.state c.requires.fresh) c.entry_there-entry.ensures c.month_of-month.ensures in
    asks_since r.changing

pub copy_dues-requires-clause-room : goal.copy_dues-requires-clause-room
copy_dues-requires-clause-room g c =
    let r = reversed c.month_of-month.result c.entry_there-entry.result (reversing c.args.count c.args.state.now.today c.args.state.now.loans c.args.state.now.seals c.args.place.id c.args.number c.requires.state c.requires.fresh) c.entry_there-entry.ensures c.month_of-month.ensures in
    asks_room _ r.changing c.requires.dues

pub reverse-requires-clause-entry : goal.reverse-requires-clause-entry
reverse-requires-clause-entry g c =
    let r = reversed c.month_of-month.result c.entry_there-entry.result (reversing c.args.count c.args.state.now.today c.args.state.now.loans c.args.state.now.seals c.args.place.id c.args.number c.requires.state c.requires.fresh) c.entry_there-entry.ensures c.month_of-month.ensures in
    r.there

pub reverse-requires-clause-live : goal.reverse-requires-clause-live
reverse-requires-clause-live g c =
    let r = reversed c.month_of-month.result c.entry_there-entry.result (reversing c.args.count c.args.state.now.today c.args.state.now.loans c.args.state.now.seals c.args.place.id c.args.number c.requires.state c.requires.fresh) c.entry_there-entry.ensures c.month_of-month.ensures in
    r.live

pub record_dues-requires-clause-since : goal.record_dues-requires-clause-since
record_dues-requires-clause-since g c =
    let r = reversed c.month_of-month.result c.entry_there-entry.result (reversing c.args.count c.args.state.now.today c.args.state.now.loans c.args.state.now.seals c.args.place.id c.args.number c.requires.state c.requires.fresh) c.entry_there-entry.ensures c.month_of-month.ensures in
    let h = r.changing in
    let are = are_reversed c.reverse.new.self r c.reverse.ensures.held c.reverse.ensures.closed c.reverse.ensures.remitted in
    later_since c.reverse.new.self h are

pub record_dues-requires-clause-dues : goal.record_dues-requires-clause-dues
record_dues-requires-clause-dues g c =
    let r = reversed c.month_of-month.result c.entry_there-entry.result (reversing c.args.count c.args.state.now.today c.args.state.now.loans c.args.state.now.seals c.args.place.id c.args.number c.requires.state c.requires.fresh) c.entry_there-entry.ensures c.month_of-month.ensures in
    let h = r.changing in
    let are = are_reversed c.reverse.new.self r c.reverse.ensures.held c.reverse.ensures.closed c.reverse.ensures.remitted in
    rw c.copy_dues.ensures.capacity (later_fits c.reverse.new.self c.copy_dues.new.dues.items (vec_capacity c.args.dues.now) h are c.copy_dues.ensures.dues c.requires.dues)

pub record_dues-requires-clause-change : goal.record_dues-requires-clause-change
record_dues-requires-clause-change g c =
    let r = reversed c.month_of-month.result c.entry_there-entry.result (reversing c.args.count c.args.state.now.today c.args.state.now.loans c.args.state.now.seals c.args.place.id c.args.number c.requires.state c.requires.fresh) c.entry_there-entry.ensures c.month_of-month.ensures in
    let h = r.changing in
    let are = are_reversed c.reverse.new.self r c.reverse.ensures.held c.reverse.ensures.closed c.reverse.ensures.remitted in
    let before = c.copy_dues.new.dues.items in
    let copied = c.copy_dues.ensures.dues in
    later_change c.reverse.new.self before h are copied

pub record_dues-requires-clause-room : goal.record_dues-requires-clause-room
record_dues-requires-clause-room g c =
    let r = reversed c.month_of-month.result c.entry_there-entry.result (reversing c.args.count c.args.state.now.today c.args.state.now.loans c.args.state.now.seals c.args.place.id c.args.number c.requires.state c.requires.fresh) c.entry_there-entry.ensures c.month_of-month.ensures in
    let h = r.changing in
    let are = are_reversed c.reverse.new.self r c.reverse.ensures.held c.reverse.ensures.closed c.reverse.ensures.remitted in
    let before = c.copy_dues.new.dues.items in
    let copied = c.copy_dues.ensures.dues in
    later_room c.reverse.new.self before c.args.state.now.seals.adjustment_room h are copied c.requires.adjustments

pub returns-clause-world : goal.returns-clause-world
returns-clause-world g c =
    let r = reversed c.month_of-month.result c.entry_there-entry.result (reversing c.args.count c.args.state.now.today c.args.state.now.loans c.args.state.now.seals c.args.place.id c.args.number c.requires.state c.requires.fresh) c.entry_there-entry.ensures c.month_of-month.ensures in
    let h = r.changing in
    let are = are_reversed c.reverse.new.self r c.reverse.ensures.held c.reverse.ensures.closed c.reverse.ensures.remitted in
    let before = c.copy_dues.new.dues.items in
    let copied = c.copy_dues.ensures.dues in
    let seals = c.record_dues.new.seals in
    let done : IsRecorded c.args.count c.args.place.id c.month_of-month.result before c.reverse.new.self c.args.state.now.seals seals = record { done = c.record_dues.ensures.done; remitted = c.record_dues.ensures.remitted } in
    world_after c.reverse.new.self before seals h are copied done ∙ sym (reversed_world c.args.count c.args.place.id c.args.number (world_of c.args.state.now.today c.args.state.now.loans c.args.state.now.seals))

pub returns-clause-kept : goal.returns-clause-kept
returns-clause-kept g c =
    let r = reversed c.month_of-month.result c.entry_there-entry.result (reversing c.args.count c.args.state.now.today c.args.state.now.loans c.args.state.now.seals c.args.place.id c.args.number c.requires.state c.requires.fresh) c.entry_there-entry.ensures c.month_of-month.ensures in
    let h = r.changing in
    let are = are_reversed c.reverse.new.self r c.reverse.ensures.held c.reverse.ensures.closed c.reverse.ensures.remitted in
    let before = c.copy_dues.new.dues.items in
    let seals = c.record_dues.new.seals in
    let done : IsRecorded c.args.count c.args.place.id c.month_of-month.result before c.reverse.new.self c.args.state.now.seals seals = record { done = c.record_dues.ensures.done; remitted = c.record_dues.ensures.remitted } in
    kept_after c.reverse.new.self before seals h are done

pub returns-clause-steps : goal.returns-clause-steps
returns-clause-steps g c =
    let r = reversed c.month_of-month.result c.entry_there-entry.result (reversing c.args.count c.args.state.now.today c.args.state.now.loans c.args.state.now.seals c.args.place.id c.args.number c.requires.state c.requires.fresh) c.entry_there-entry.ensures c.month_of-month.ensures in
    let h = r.changing in
    let are = are_reversed c.reverse.new.self r c.reverse.ensures.held c.reverse.ensures.closed c.reverse.ensures.remitted in
    let before = c.copy_dues.new.dues.items in
    let seals = c.record_dues.new.seals in
    let done : IsRecorded c.args.count c.args.place.id c.month_of-month.result before c.reverse.new.self c.args.state.now.seals seals = record { done = c.record_dues.ensures.done; remitted = c.record_dues.ensures.remitted } in
    subst (λ x. c.reverse.new.steps ≤ c.args.steps.now + x) (reversed_cost c.reverse.new.self seals g.B.LoanBooks.cost g.B.LoanBooks.month_cost r are)
    (steps_after c.reverse.new.self before seals g.B.LoanBooks.cost g.B.LoanBooks.month_cost c.reverse.new.steps c.args.steps.now h are done
    (subst (λ m. OfLoan c.args.place.id c.reverse.new.self.loans (λ (k : KeptLoan). c.reverse.new.steps ≤ c.args.steps.now + g.B.LoanBooks.cost k.held.account m + closed_cost g.B.LoanBooks.month_cost k.held.account k.closed m)) (sym c.month_of-month.ensures) c.reverse.ensures.steps))
