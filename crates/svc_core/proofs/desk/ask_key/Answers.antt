use Rattle.std.proofs.Common.{arith, sym, ap, ◌∙◌}
use Rattle.std.specs.Prelude.{is_some, not, [], ◌∷◌}
use Rattle.std.specs.Option.{option_map}
use Rattle.svc_types.specs.declared.replies.Refusal.TheVariants as why
use Rattle.svc_world.specs.Answers.{posting_answer}
use Rattle.svc_world.specs.Refusals.{case, first_of}
use Rattle.svc_core.specs.Posted.{postings_in}
use Rattle.svc_core.proofs.PostingLemmas.{count_in, found_from, none_from, nth_is, is_there}
use Rattle.svc_core.proofs.desk.ask_key.Goals as goal

pub posting_answer-requires-clause-some : goal.posting_answer-requires-clause-some
posting_answer-requires-clause-some c =
    let p = c.args.posted.now in
    (found_from 1 p.history p.replies c.args.key.now c.in-Some.number c.is_replied.ensures (sym c.number_of.ensures ∙ c.in-Some.is)).low

pub posting_answer-requires-clause-few : goal.posting_answer-requires-clause-few
posting_answer-requires-clause-few c =
    let p = c.args.posted.now in
    let few = (found_from 1 p.history p.replies c.args.key.now c.in-Some.number c.is_replied.ensures (sym c.number_of.ensures ∙ c.in-Some.is)).few in
    let count = count_in p.history p.replies c.is_replied.ensures in
    omega (arith, few, count)

pub returns-in-Some-clause-asked : goal.returns-in-Some-clause-asked
returns-in-Some-clause-asked c =
    let p = c.args.posted.now in
    let under = found_from 1 p.history p.replies c.args.key.now c.in-Some.number c.is_replied.ensures (sym c.number_of.ensures ∙ c.in-Some.is) in
    let there = is_there (postings_in p.history p.replies) c.args.key.now 1 c.in-Some.number under in
    ap (λ b. first_of (case (not b) why.NoSuchCommand ∷ [])) there

pub returns-in-Some-clause-answer : goal.returns-in-Some-clause-answer
returns-in-Some-clause-answer c =
    let p = c.args.posted.now in
    let under = found_from 1 p.history p.replies c.args.key.now c.in-Some.number c.is_replied.ensures (sym c.number_of.ensures ∙ c.in-Some.is) in
    ap (option_map posting_answer) (under.same ∙ sym (nth_is c.in-Some.number (postings_in p.history p.replies) under.low)) ∙ c.posting_answer.ensures

pub returns-in-None-clause-refused : goal.returns-in-None-clause-refused
returns-in-None-clause-refused c =
    let p = c.args.posted.now in
    let none = none_from 1 p.history p.replies c.args.key.now (sym c.number_of.ensures ∙ c.in-None.is) in
    ap (λ o. first_of (case (not (is_some o)) why.NoSuchCommand ∷ [])) none
