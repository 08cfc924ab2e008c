use Rattle.std.proofs.Common.{length, ap, arith}
use Rattle.svc_spec.specs.History.{history_of}
use Rattle.svc_spec.proofs.AccountLemmas.{account_few, live_entries_fold}
use Rattle.svc_spec.proofs.CostLemmas.{refold_within}
use Rattle.svc_replay.proofs.history_lines.history.Goals as goal

pub lines_to-requires-clause-count : goal.lines_to-requires-clause-count
lines_to-requires-clause-count g c = omega (arith, account_few c.args.kept.now.account c.is_account.ensures, ap length c.live.ensures)

pub lines_to-requires-clause-entries : goal.lines_to-requires-clause-entries
lines_to-requires-clause-entries g c = rw (c.terms.ensures, c.live.ensures) (live_entries_fold c.args.kept.now.account c.is_account.ensures)

pub returns-clause-lines : goal.returns-clause-lines
unfolding history_of
returns-clause-lines g c = rw (c.terms.ensures, c.live.ensures, c.today.ensures) at c.lines_to.ensures.lines

pub returns-clause-steps : goal.returns-clause-steps
returns-clause-steps g c =
    let a = c.args.kept.now.account in
    let after = c.is_account.ensures.after in
    let steps = rw (c.terms.ensures, c.live.ensures, c.today.ensures) at c.lines_to.ensures.steps in
    omega (arith, steps, refold_within a a.today c.is_account.ensures after (omega arith))
