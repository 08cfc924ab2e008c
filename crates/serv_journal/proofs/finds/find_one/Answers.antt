use Rattle.std.proofs.Common.{◌≤◌, length, arith, refl, inl, inr, sym, ◌∙◌}
use Rattle.serv_journal.specs.declared.format.Version.TheVariants.{One}
use Rattle.serv_journal.proofs.FindLemmas.{found_at, damaged_at, form_one, marked_front, front_marked}
use Rattle.serv_journal.proofs.finds.find_one.Goals as goal

pub find_two-requires-clause-front : goal.find_two-requires-clause-front
find_two-requires-clause-front g c = λ s is.
    let said = c.in_ok-scan.ensures in
    let was = sym c.scan_from.ensures.reading.stays.told ∙ is in
    marked_front c.in_ok-scan.scan.frames c.in_ok-scan.scan.place s (c.requires.front s was) said.placed (said.scanned s was) (rw c.in-Marked.is at (said.end s was))

pub find_two-requires-clause-form : goal.find_two-requires-clause-form
find_two-requires-clause-form g c = front_marked c.in_ok-scan.scan.frames c.in_ok-scan.scan.place c.in_ok-scan.ensures.placed

pub returns-in-Closed-clause-found : goal.returns-in-Closed-clause-found
returns-in-Closed-clause-found g c = λ s is.
    let said = c.in_ok-scan.ensures in
    let within : 8 ≤ length s = omega (arith, (c.requires.shows s is).size) in
    found_at One 8 c.in_ok-scan.scan.frames c.in_ok-scan.scan.place c.in-Closed.commit s within (c.requires.front s is) said.placed (said.scanned s is)
    (rw c.in-Closed.is at (said.end s is))

pub returns-in-Closed-clause-form : goal.returns-in-Closed-clause-form
returns-in-Closed-clause-form g c = form_one c.in_ok-scan.scan.frames c.in_ok-scan.scan.place c.in_ok-scan.ensures.placed

pub returns-in-Bad-clause-fault : goal.returns-in-Bad-clause-fault
returns-in-Bad-clause-fault g c = inr (inl (
  c.in_ok-scan.scan.place,
  refl,
  λ s is.
      let said = c.in_ok-scan.ensures in
      let within : 8 ≤ length s = omega (arith, (c.requires.shows s is).size) in
      damaged_at One 8 c.in_ok-scan.scan.frames c.in_ok-scan.scan.place s within (c.requires.front s is) said.placed (said.scanned s is)
      (rw c.in-Bad.is at (said.end s is)),
))
