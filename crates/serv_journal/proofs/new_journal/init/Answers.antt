use Rattle.std.proofs.Common.{◌≡◌, Some, [], ◌++◌, ◌∷◌, drop, ap, ◌∙◌, arith}
use Rattle.std.proofs.lemmas.List.{drop_all}
use Rattle.serv_journal.specs.Format.{base, header}
use Rattle.serv_journal.proofs.OutcomeLemmas.{told_from}
use Rattle.serv_journal.proofs.new_journal.init.Goals as goal

pub returns-clause-durable : goal.returns-clause-durable
unfolding base header
returns-clause-durable g c = λ x h. let left = c.in_ok-put.ensures.durable x h in record { tail = drop 9 left.0; is = left.2 }

pub returns-clause-written : goal.returns-clause-written
unfolding header
returns-clause-written g c =
    λ s is.
    let mid = c.length_of.ensures.stays.told ∙ is in
    let found = told_from _ _ _ s mid c.in_ok-put.ensures.told in
    let none : drop 9 s ≡ [] = drop_all 9 s (omega (arith, c.in_ok-length_of.ensures.number s is)) in
    found.1 ∙ ap (λ x. Some x) (found.2 ∙ (ap (λ t. (77 ∷ 83 ∷ 82 ∷ 86 ∷ 74 ∷ 48 ∷ 48 ∷ 50 ∷ 0 ∷ []) ++ t) none))
