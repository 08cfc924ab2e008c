use Rattle.std.proofs.Common.{ap, sym, ◌∙◌}
use Rattle.svc_base.specs.Text.{text_of_signed}
use Rattle.svc_base.proofs.TextLemmas.{on_none}
use Rattle.bank_recon.proofs.AmountLemmas.{no_word, zero_word, kept, item_amount}
use Rattle.bank_recon.proofs.amount.read_item_amount.Goals as goal

pub returns-in_err-cents-clause-none : goal.returns-in_err-cents-clause-none
returns-in_err-cents-clause-none c = on_none _ (no_word c.args.text.now c.in_err-cents.ensures.none)

pub returns-then-cents-eq0-clause-none : goal.returns-then-cents-eq0-clause-none
returns-then-cents-eq0-clause-none c =
    zero_word c.args.text.now c.in_ok-cents.cents c.in_ok-cents.ensures.read c.in_ok-cents.ensures.range c.if-cents-eq0.true

pub returns-clause-read : goal.returns-clause-read
returns-clause-read c = c.in_ok-cents.ensures.read ∙ ap text_of_signed (sym (kept c.in_ok-cents.cents c.in_ok-cents.ensures.range))

pub returns-clause-range : goal.returns-clause-range
returns-clause-range c = item_amount c.in_ok-cents.cents c.in_ok-cents.ensures.range c.if-cents-eq0.false
