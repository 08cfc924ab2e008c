use Rattle.std.proofs.Common.{◌∙◌, sym}
use Rattle.svc_world.specs.World.{world}
use Rattle.pmi_track.proofs.LoanLemmas.{has_loan}
use Rattle.pmi_track.proofs.TermsLemmas.{terms_are}
use Rattle.pmi_track.proofs.OutcomeLemmas.{not_there, no_terms, first_steps}
use Rattle.pmi_track.proofs.deciding.outcome_with.Goals as goal

pub denial_of-requires : goal.denial_of-requires
denial_of-requires g c =
    record { terms = terms_are c.args.insured.now.loan c.args.core.now.history c.history_holds.ensures.history ∙ sym c.requires.terms ∙ c.in-Some.is }

pub returns-in_err-denial-in-Some-clause-steps : goal.returns-in_err-denial-in-Some-clause-steps
returns-in_err-denial-in-Some-clause-steps g c =
    let h = c.args.core.now.history in
    let i = c.args.insured.now in
    let terms = terms_are i.loan h c.history_holds.ensures.history ∙ sym c.requires.terms ∙ c.in-Some.is in
    let k = has_loan h i.loan c.in-Some.terms c.history_holds.ensures.history terms in
    first_steps g.B.LoanBooks.cost h i c.in-Some.terms c.args.steps.now c.denial_of.new.steps k c.denial_of.ensures.steps

pub automatic_end-requires : goal.automatic_end-requires
automatic_end-requires g c =
    record { terms = terms_are c.args.insured.now.loan c.args.core.now.history c.history_holds.ensures.history ∙ sym c.requires.terms ∙ c.in-Some.is }

pub returns-in-None-clause-refused : goal.returns-in-None-clause-refused
returns-in-None-clause-refused g c =
    let w = world c.args.core.now.history in
    let i = c.args.insured.now in
    not_there w i (no_terms w i.loan (terms_are i.loan c.args.core.now.history c.history_holds.ensures.history ∙ sym c.requires.terms ∙ c.in-None.is))
