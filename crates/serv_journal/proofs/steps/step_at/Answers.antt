use Rattle.std.proofs.Common.{◌<◌, length, arith, ◌∙◌}
use Rattle.serv_journal.proofs.StepLemmas.{step_marked, step_closed, step_record, step_bad}
use Rattle.serv_journal.proofs.steps.step_at.Goals as goal

pub returns-then-branch-clause-step : goal.returns-then-branch-clause-step
returns-then-branch-clause-step g c = λ s is.
    let within : c.args.place < length s = omega (arith, (c.requires.shows s is).size, c.size.ensures, c.if-place-size.false) in
    let fits = c.in_ok-ends_part.ensures.fits c.if-branch.true in
    step_marked c.args.version s c.args.place c.in_ok-commit.commit within (c.in_ok-commit.ensures.byte s is) fits.0 fits.1
    (c.in_ok-ends_part.ensures.mark s (c.byte_at.ensures.reading.stays.told ∙ is) c.if-branch.true)

pub returns-then-commit-ne1-clause-step : goal.returns-then-commit-ne1-clause-step
returns-then-commit-ne1-clause-step g c = λ s is.
    let within : c.args.place < length s = omega (arith, (c.requires.shows s is).size, c.size.ensures, c.if-place-size.false) in
    step_closed c.args.version s c.args.place c.in_ok-commit.commit within (c.in_ok-commit.ensures.byte s is) c.if-commit-ne1.true
    (c.in_ok-ends_part.ensures.unmarked s (c.byte_at.ensures.reading.stays.told ∙ is) c.if-branch.false)

pub returns-in-Some-clause-step : goal.returns-in-Some-clause-step
returns-in-Some-clause-step g c = λ s is.
    let within : c.args.place < length s = omega (arith, (c.requires.shows s is).size, c.size.ensures, c.if-place-size.false) in
    let told = c.ends_part.ensures.reading.stays.told ∙ (c.byte_at.ensures.reading.stays.told ∙ is) in
    step_record c.args.version c.args.number c.in-Some.size s c.args.place c.in_ok-commit.commit within (c.in_ok-commit.ensures.byte s is) c.if-commit-ne1.false
    (rw c.in-Some.is at (c.in_ok-size.ensures.found s told))

pub returns-in-None-clause-step : goal.returns-in-None-clause-step
returns-in-None-clause-step g c = λ s is.
    let within : c.args.place < length s = omega (arith, (c.requires.shows s is).size, c.size.ensures, c.if-place-size.false) in
    let told = c.ends_part.ensures.reading.stays.told ∙ (c.byte_at.ensures.reading.stays.told ∙ is) in
    step_bad c.args.version c.args.number s c.args.place c.in_ok-commit.commit within (c.in_ok-commit.ensures.byte s is) c.if-commit-ne1.false
    (rw c.in-None.is at (c.in_ok-size.ensures.found s told))
