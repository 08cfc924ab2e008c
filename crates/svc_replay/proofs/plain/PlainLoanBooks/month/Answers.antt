use Rattle.std.proofs.Common.{◌-◌, sym, ap, subst, ◌∙◌}
use Rattle.svc_types.specs.Collected.{collected_of}
use Rattle.svc_spec.specs.Accounts.{books_of}
use Rattle.svc_spec.specs.Months.{facts_between, books_at_end, AreFacts}
use Rattle.svc_spec.proofs.MonthLemmas.{from_boarded}
use Rattle.svc_spec.proofs.RiseLemmas.{month_within}
use Rattle.svc_replay.specs.Collected.{AreWithin}
use Rattle.svc_replay.proofs.PlainLemmas.{within_books}
use Rattle.svc_replay.proofs.plain.PlainLoanBooks.month.Goals as goal

pub returns-clause-facts : goal.returns-clause-facts
returns-clause-facts g c =
    let a = c.args.self.now.account in
    let m = c.args.month in
    let first = rw c.self.view_is at c.books_before-before.ensures.books in
    let day = rw c.self.view_is at c.end_day.ensures.day in
    let last = rw c.self.view_is at c.refolded-after.ensures.books in
    let until = last ∙ ap (books_of a) day ∙ sym (from_boarded a m c.requires.after) in
    c.facts_between.ensures
    ∙ ap (λ x. facts_between m x c.of-last.result) (c.of-first.ensures ∙ ap collected_of first)
    ∙ ap (facts_between m (collected_of (books_at_end a (m - 1)))) (c.of-last.ensures ∙ ap collected_of until)

pub facts_between-requires-clause-before : goal.facts_between-requires-clause-before
facts_between-requires-clause-before g c =
    subst AreWithin (sym c.of-first.ensures) (within_books _ _ c.end_day.ensures.account.terms c.books_before-before.ensures.sound)

pub facts_between-requires-clause-after : goal.facts_between-requires-clause-after
facts_between-requires-clause-after g c =
    subst AreWithin (sym c.of-last.ensures) (within_books _ _ c.end_day.ensures.account.terms c.refolded-after.ensures.sound)

pub returns-clause-within : goal.returns-clause-within
returns-clause-within g c =
    let sound = rw c.self.view_is at c.end_day.ensures.account in
    subst (AreFacts c.args.self.now.account.terms) (sym (returns-clause-facts g c)) (month_within c.args.self.now.account c.args.month sound c.requires.after)
