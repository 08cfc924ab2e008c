use Rattle.std.proofs.Common.{◌≡◌, ap, ◌∙◌}
use Rattle.std.specs.List.{insert, list_any}
use Rattle.svc_base.specs.Sums.{total_by}
use Rattle.period_adjust.specs.Pending.{running, is_kept_of}
use Rattle.period_adjust.proofs.RunningLemmas.{zero_sums, running-insert, kept-insert}
use Rattle.period_adjust.proofs.loan_sums.insert_nothing.Goals as goal

pub returns-clause-total : goal.returns-clause-total
returns-clause-total c part other =
    let items : c.insert.new.self.items ≡ insert c.args.sums.now.items c.args.place (zero_sums c.args.loan) =
    (rw c.unwrap.ensures at c.insert.ensures.items) ∙ ap (insert c.args.sums.now.items c.args.place) c.nothing.ensures in
    ap (total_by (running part other)) items ∙ running-insert part other c.args.loan c.args.sums.now.items c.args.place

pub returns-clause-there : goal.returns-clause-there
returns-clause-there c other =
    let items : c.insert.new.self.items ≡ insert c.args.sums.now.items c.args.place (zero_sums c.args.loan) =
    (rw c.unwrap.ensures at c.insert.ensures.items) ∙ ap (insert c.args.sums.now.items c.args.place) c.nothing.ensures in
    ap (list_any (is_kept_of other)) items ∙ kept-insert other c.args.loan c.args.sums.now.items c.args.place
