use Rattle.std.proofs.Common.{sym, ◌∙◌, refl, inl}
use Rattle.serv_journal.specs.declared.format.Version.TheVariants.{One, Two}
use Rattle.serv_journal.specs.Format.{header}
use Rattle.serv_journal.proofs.FindLemmas.{header_taken, front_new, no_text}
use Rattle.serv_journal.proofs.finds.find.Goals as goal

pub find_two-requires-clause-front : goal.find_two-requires-clause-front
unfolding header
find_two-requires-clause-front g c = λ s is.
    let was = sym c.has_text.ensures.reading.stays.told ∙ is in
    inl (header_taken Two s ((c.in_ok-is_two.ensures.text s was).0 c.if-is_two.true))

pub find_two-requires-clause-form : goal.find_two-requires-clause-form
find_two-requires-clause-form g c = front_new

pub find_one-requires-clause-front : goal.find_one-requires-clause-front
unfolding header
find_one-requires-clause-front g c = λ s is.
    let was = sym c.has_text-2.ensures.reading.stays.told ∙ is in
    header_taken One s ((c.in_ok-is_one.ensures.text s was).0 c.if-is_one.true)

pub returns-clause-fault : goal.returns-clause-fault
unfolding header
returns-clause-fault g c = inl (
  refl,
  λ s is. record {
    not_one = no_text c.in_ok-is_one.is_one _ (c.in_ok-is_one.ensures.text s (c.has_text.ensures.reading.stays.told ∙ is)).1 c.if-is_one.false;
    not_two = no_text c.in_ok-is_two.is_two _ (c.in_ok-is_two.ensures.text s is).1 c.if-is_two.false;
  },
)
