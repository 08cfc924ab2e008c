use Rattle.std.proofs.Common.{◌≡◌, ◌-◌, sym, ap, subst, ◌∙◌}
use Rattle.svc_types.specs.Collected.{collected_of}
use Rattle.svc_spec.specs.Months.{facts_between, books_at_end, month_facts, AreFacts}
use Rattle.svc_spec.proofs.RiseLemmas.{month_within}
use Rattle.svc_replay.specs.Kept.{Kept}
use Rattle.svc_checkpoint.proofs.checked.CheckedLoanBooks.month.Goals as goal

pub returns-clause-facts : goal.returns-clause-facts
returns-clause-facts g c =
    let same : c.args.self.now.account ≡ c.self.inside.kept.account = ap (λ (k : Kept). k.account) (sym c.self.view_is) in
    let a = c.self.inside.kept.account in
    let m = c.args.month in
    rw same (c.facts_between.ensures
    ∙ ap (λ x. facts_between m x c.collected_by-after.result) c.collected_before-before.ensures.collected
    ∙ ap (facts_between m (collected_of (books_at_end a (m - 1)))) c.collected_by-after.ensures.collected)

pub returns-clause-within : goal.returns-clause-within
returns-clause-within g c =
    let same : c.args.self.now.account ≡ c.self.inside.kept.account = ap (λ (k : Kept). k.account) (sym c.self.view_is) in
    let a = c.self.inside.kept.account in
    let m = c.args.month in
    let facts : c.facts_between.result ≡ month_facts a m = subst (λ x. c.facts_between.result ≡ month_facts x m) same (returns-clause-facts g c) in
    rw same (subst (AreFacts a.terms) (sym facts) (month_within a m c.self.invariant.account (rw same at c.requires.after)))
