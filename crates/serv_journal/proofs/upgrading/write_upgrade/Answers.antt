use Rattle.std.proofs.Common.{ℕ, List, [], ◌∷◌, ◌++◌, inl, inr, arith, sym, ◌∙◌}
use Rattle.serv_disk.proofs.Moments.{weaker, joined}
use Rattle.serv_journal.specs.Format.{rewritten}
use Rattle.serv_journal.specs.Reading.{lines_in}
use Rattle.serv_journal.proofs.ByteLemmas.{staged_between, length_closed}
use Rattle.serv_journal.proofs.upgrading.write_upgrade.Goals as goal

pub returns-in_err-lay_all-clause-moments : goal.returns-in_err-lay_all-clause-moments
returns-in_err-lay_all-clause-moments g c = λ front long each.
    weaker _ _ _ _ _ (c.lay_all.ensures.moments (front ++ 0 ∷ []) (length_closed front c.args.size long) each) (λ x h. inl h)

pub returns-in_err-sync_all-clause-moments : goal.returns-in_err-sync_all-clause-moments
returns-in_err-sync_all-clause-moments g c = λ front long each.
    let closed = length_closed front c.args.size long in
    weaker _ _ _ _ _
    (joined _ _ _ _ _ (c.lay_all.ensures.moments (front ++ 0 ∷ []) closed each)
    (weaker _ _ _ _ _ c.sync_all.ensures.stays.moments (c.lay_all.ensures.crash (front ++ 0 ∷ []) closed each)))
    (λ x h. inl h)

pub returns-clause-durable : goal.returns-clause-durable
returns-clause-durable g c = λ front long each.
    let closed = length_closed front c.args.size long in
    let all : List ℕ = rewritten (lines_in c.args.frames.now) in
    c.set_byte.ensures.durable front all (omega arith)
    (λ x h. staged_between front all x (c.in_ok-lay_all.ensures.told (front ++ 0 ∷ []) closed (λ s is. each s (g.met.D.Disk.reads_image c.args.disk.now s is)) x
    (sym c.sync_all.ensures.stays.told ∙ c.in_ok-sync_all.ensures.only x h)))

pub returns-clause-moments : goal.returns-clause-moments
returns-clause-moments g c = λ front long each.
    let closed = length_closed front c.args.size long in
    let all : List ℕ = rewritten (lines_in c.args.frames.now) in
    joined _ _ _ _ _
    (weaker _ _ _ _ _
    (joined _ _ _ _ _ (c.lay_all.ensures.moments (front ++ 0 ∷ []) closed each)
    (weaker _ _ _ _ _ c.sync_all.ensures.stays.moments (c.lay_all.ensures.crash (front ++ 0 ∷ []) closed each)))
    (λ x h. inl h))
    (weaker _ _ _ _ _
    (c.set_byte.ensures.moments front all (omega arith)
    (λ x h. staged_between front all x (c.in_ok-lay_all.ensures.told (front ++ 0 ∷ []) closed (λ s is. each s (g.met.D.Disk.reads_image c.args.disk.now s is)) x
    (sym c.sync_all.ensures.stays.told ∙ c.in_ok-sync_all.ensures.only x h))))
    (λ x h. inr h))
