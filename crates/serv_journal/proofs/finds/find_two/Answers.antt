use Rattle.std.proofs.Common.{◌≤◌, length, arith, refl, inl, inr}
use Rattle.serv_journal.specs.declared.format.Version.TheVariants.{Two}
use Rattle.serv_journal.proofs.FindLemmas.{found_at, damaged_at, form_two}
use Rattle.serv_journal.proofs.finds.find_two.Goals as goal

pub returns-in-Closed-clause-found : goal.returns-in-Closed-clause-found
returns-in-Closed-clause-found g c = λ s is.
    let said = c.in_ok-scan.ensures in
    let within : c.args.from ≤ length s = omega (arith, (c.requires.shows s is).size) in
    found_at Two c.args.from c.in_ok-scan.scan.frames c.in_ok-scan.scan.place c.in-Closed.commit s within (c.requires.front s is) said.placed (said.scanned s is)
    (rw c.in-Closed.is at (said.end s is))

pub returns-in-Closed-clause-form : goal.returns-in-Closed-clause-form
returns-in-Closed-clause-form g c =
    let form = c.requires.form in
    form_two c.args.from c.in_ok-scan.scan.frames c.in_ok-scan.scan.place form.0 form.1 form.2 c.in_ok-scan.ensures.placed

pub returns-in-Bad-clause-fault : goal.returns-in-Bad-clause-fault
returns-in-Bad-clause-fault g c = inr (inl (
  c.in_ok-scan.scan.place,
  refl,
  λ s is.
      let said = c.in_ok-scan.ensures in
      let within : c.args.from ≤ length s = omega (arith, (c.requires.shows s is).size) in
      damaged_at Two c.args.from c.in_ok-scan.scan.frames c.in_ok-scan.scan.place s within (c.requires.front s is) said.placed (said.scanned s is)
      (rw c.in-Bad.is at (said.end s is)),
))
