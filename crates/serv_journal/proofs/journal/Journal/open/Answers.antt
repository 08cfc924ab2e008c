use Rattle.std.proofs.Common.{Some, ap, ◌∙◌, refl, ⊎_elim}
use Rattle.std.proofs.lemmas.Result.{err_from_is_err_and}
use Rattle.serv_disk.proofs.Moments.{weaker}
use Rattle.serv_journal.specs.Reading.{lines_in}
use Rattle.serv_journal.proofs.StaysLemmas.{stays_then}
use Rattle.serv_journal.proofs.ExactLemmas.{opened_found, form_least, close_keeps, only_damaged, only_not_journal, durable_for, read_or_damaged, form_or_none}
use Rattle.serv_journal.proofs.journal.Journal.open.Goals as goal

pub returns-in_err-found-clause-exactly_not_journal : goal.returns-in_err-found-clause-exactly_not_journal
returns-in_err-found-clause-exactly_not_journal g c = λ s is none.
    let p = err_from_is_err_and c.from_residual.result c.from_residual.ensures.1 in
    rw (p.1, p.2) (only_not_journal _ s _ _ c.in_err-found.field-0.0 is none c.in_err-found.ensures.fault)

pub returns-in_err-found-clause-exactly_damaged : goal.returns-in_err-found-clause-exactly_damaged
returns-in_err-found-clause-exactly_damaged g c = λ s place is damaged.
    let p = err_from_is_err_and c.from_residual.result c.from_residual.ensures.1 in
    rw (p.1, p.2) (only_damaged _ s place _ _ c.in_err-found.field-0.0 is damaged c.in_err-found.ensures.fault)

pub returns-in_err-close_byte-clause-moments : goal.returns-in_err-close_byte-clause-moments
returns-in_err-close_byte-clause-moments g c = λ s is lines line fit is_line good.
    let stays = c.read_all.ensures.stays in
    let found = c.in_ok-found.found in
    stays_then _ _ _ _ _ stays good
    (weaker _ _ _ _ _ c.close_byte.ensures.moments
    (λ x h. ⊎_elim (λ old. good x (stays.crash x old))
    (λ torn. close_keeps _ _ found.version found.frames found.place found.commit s x lines line (stays.told ∙ is) c.in_ok-found.ensures.only fit is_line
    (good s (g.met.D.Disk.reads_image c.args.disk.now s is)) (c.in_ok-found.ensures.found s is) torn) h))

pub invariant_of-result : goal.invariant_of-result
invariant_of-result g c = (c.requires, form_least c.in_ok-found.found.version c.in_ok-found.found.frames c.in_ok-found.found.place c.len.result c.in_ok-found.ensures.form c.len.ensures, tt)

pub returns-clause-opened : goal.returns-clause-opened
returns-clause-opened g c = λ s is.
    let found = c.in_ok-found.found in
    opened_found _ found.version found.frames found.place found.commit s _ (c.in_ok-found.ensures.found s is) refl c.len.ensures refl
    (λ front rest long e. c.in_ok-close_byte.ensures.told front rest long (c.read_all.ensures.stays.told ∙ (is ∙ ap (λ x. Some x) e)))

pub returns-clause-durable : goal.returns-clause-durable
returns-clause-durable g c =
    let found = c.in_ok-found.found in
    durable_for (g.D.Disk.view c.args.disk.now).seen _ _ _ found.frames found.place c.in_ok-found.ensures.form c.len.ensures refl refl refl
    (λ s is. opened_found _ found.version found.frames found.place found.commit s _ (c.in_ok-found.ensures.found s is) refl c.len.ensures refl
    (λ front rest long e. c.in_ok-close_byte.ensures.told front rest long (c.read_all.ensures.stays.told ∙ (is ∙ ap (λ x. Some x) e))))
    (c.in_ok-close_byte.ensures.only c.in_ok-found.ensures.only)
    (λ none. c.in_ok-close_byte.ensures.untold (c.read_all.ensures.stays.told ∙ none))

pub returns-clause-moments : goal.returns-clause-moments
returns-clause-moments g c = λ s is lines line fit is_line good.
    let stays = c.read_all.ensures.stays in
    let found = c.in_ok-found.found in
    stays_then _ _ _ _ _ stays good
    (weaker _ _ _ _ _ c.close_byte.ensures.moments
    (λ x h. ⊎_elim (λ old. good x (stays.crash x old))
    (λ torn. close_keeps _ _ found.version found.frames found.place found.commit s x lines line (stays.told ∙ is) c.in_ok-found.ensures.only fit is_line
    (good s (g.met.D.Disk.reads_image c.args.disk.now s is)) (c.in_ok-found.ensures.found s is) torn) h))

pub returns-clause-exactly_not_journal : goal.returns-clause-exactly_not_journal
returns-clause-exactly_not_journal g c = λ s is none.
    let f = c.in_ok-found.ensures.found s is in
    form_or_none f.form (lines_in c.in_ok-found.found.frames) _ s f.read.is_form f.read.is none

pub returns-clause-exactly_damaged : goal.returns-clause-exactly_damaged
returns-clause-exactly_damaged g c = λ s place is damaged.
    let f = c.in_ok-found.ensures.found s is in
    read_or_damaged f.form (lines_in c.in_ok-found.found.frames) c.in_ok-found.found.commit f.rest s place f.read damaged
