use Rattle.std.proofs.Common.{◌≡◌, refl, sym, ap, subst, ◌∙◌}
use Rattle.std.specs.Option.{option_map}
use Rattle.svc_world.specs.World.{World}
use Rattle.svc_loan.specs.Kept.{KeptLoan}
use Rattle.svc_custody.specs.Positions as rule
use Rattle.svc_custody.specs.Positions.{IsPosition}
use Rattle.svc_rules.specs.State.{world_of}
use Rattle.svc_rules.proofs.RuleLemmas.{find-held}
use Rattle.svc_custody.proofs.PositionLemmas.{IsReadIn, found_read, position_are, position_within, remitted_sum}
use Rattle.svc_custody.proofs.position.position_of.Given.{Over}
use Rattle.svc_custody.proofs.position.position_of.Goals as goal

-- the loan that stands there can be read
asked : (g : Over) (c : goal.After-remitted g) → IsReadIn (world_of c.args.state.now.today c.args.state.now.loans c.args.state.now.seals) c.loan.result.now
asked g c = found_read (world_of c.args.state.now.today c.args.state.now.loans c.args.state.now.seals) c.args.state.now.loans.loans c.args.place.id c.loan.result.now c.requires.read refl c.loan.ensures

read : (g : Over) (c : goal.After-kept_position g) → IsReadIn (world_of c.args.state.now.today c.args.state.now.loans c.args.state.now.seals) c.loan.result.now
read g c = found_read (world_of c.args.state.now.today c.args.state.now.loans c.args.state.now.seals) c.args.state.now.loans.loans c.args.place.id c.loan.result.now c.requires.read refl c.loan.ensures

pub kept_position-requires-clause-limited : goal.kept_position-requires-clause-limited
kept_position-requires-clause-limited g c = (asked g c).limited

pub kept_position-requires-clause-remitted : goal.kept_position-requires-clause-remitted
kept_position-requires-clause-remitted g c = remitted_sum (world_of c.args.state.now.today c.args.state.now.loans c.args.state.now.seals) c.loan.result.now (asked g c)

-- what was read off is the position of what is held
is : (g : Over) (c : goal.After-kept_position g) → c.kept_position.result ≡ rule.position_of (world_of c.args.state.now.today c.args.state.now.loans c.args.state.now.seals) c.loan.result.now.held
is g c =
    c.kept_position.ensures
    ∙ ap (λ o. rule.kept_position o c.loan.result.now) c.remitted.ensures.value
    ∙ position_are (world_of c.args.state.now.today c.args.state.now.loans c.args.state.now.seals) c.loan.result.now (read g c)

pub returns-clause-value : goal.returns-clause-value
returns-clause-value g c =
    let w : World = world_of c.args.state.now.today c.args.state.now.loans c.args.state.now.seals in
    let there = find-held c.args.state.now.loans.loans c.args.place.id ∙ ap (option_map (λ (k : KeptLoan). k.held)) c.loan.ensures in
    is g c ∙ sym (ap (rule.position w) there)

pub returns-clause-limits : goal.returns-clause-limits
returns-clause-limits g c =
    let h = read g c in
    subst IsPosition (sym (is g c)) (position_within (world_of c.args.state.now.today c.args.state.now.loans c.args.state.now.seals) c.loan.result.now.held h.limited h.reports)
