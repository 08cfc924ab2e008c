use Rattle.std.proofs.Common.{arith}
use Rattle.svc_base.proofs.TextLemmas.{on_none}
use Rattle.serv_rows.proofs.AmountLemmas.{above_none, below_none, above_read, below_read}
use Rattle.serv_rows.proofs.amount.read_signed.Goals as goal

pub returns-in_err-read_some-in-Some-clause-none : goal.returns-in_err-read_some-in-Some-clause-none
returns-in_err-read_some-in-Some-clause-none c =
    on_none _ (below_none c.args.limit c.args.text.now c.in-Some.below.now (omega arith) c.in-Some.ensures.minus c.in_err-read_some-in-Some.ensures.none)

pub returns-in_err-read_cents-in-None-clause-none : goal.returns-in_err-read_cents-in-None-clause-none
returns-in_err-read_cents-in-None-clause-none c =
    on_none _ (above_none c.args.limit c.args.text.now c.in-None.ensures.none c.in_err-read_cents-in-None.ensures.none)

pub returns-in_ok-read_some-in-Some-clause-read : goal.returns-in_ok-read_some-in-Some-clause-read
returns-in_ok-read_some-in-Some-clause-read c =
    let range = c.in_ok-read_some-in-Some.ensures.range in
    below_read c.args.limit c.in_ok-read_some-in-Some.field-0 c.args.text.now c.in-Some.below.now (omega arith) c.in-Some.ensures.minus range.0 range.1
    c.in_ok-read_some-in-Some.ensures.read

pub returns-in_ok-read_cents-in-None-clause-read : goal.returns-in_ok-read_cents-in-None-clause-read
returns-in_ok-read_cents-in-None-clause-read c =
    let read = c.in_ok-read_cents-in-None.ensures.read in
    above_read c.args.limit c.in_ok-read_cents-in-None.field-0 c.args.text.now (omega arith) read.0 read.1
