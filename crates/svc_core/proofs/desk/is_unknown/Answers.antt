use Rattle.std.proofs.Common.{◌≡◌, length, false, arith, sym, ap, ◌∙◌}
use Rattle.std.specs.Prelude.{◌==◌, ◌||◌, nat_lt}
use Rattle.std.proofs.lemmas.Bool.Decides.{nat_tests}
use Rattle.svc_core.specs.Posted.{postings_in}
use Rattle.svc_core.proofs.PostingLemmas.{count_in}
use Rattle.svc_core.proofs.desk.is_unknown.Goals as goal

pub returns-else-number-eq0-clause-value : goal.returns-else-number-eq0-clause-value
returns-else-number-eq0-clause-value c =
    let p = c.args.posted.now in
    let zero : (c.args.number == 0) ≡ false = grind (arith, nat_tests) in
    sym (ap (λ b. b || nat_lt (length (postings_in p.history p.replies)) c.args.number) zero
    ∙ ap (λ n. nat_lt n c.args.number) (count_in p.history p.replies c.is_replied.ensures ∙ sym c.count.ensures))
