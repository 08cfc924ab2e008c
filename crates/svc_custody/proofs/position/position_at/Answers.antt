use Rattle.std.proofs.Common.{◌≡◌, refl, sym, ap, subst, ◌∙◌}
use Rattle.std.proofs.Math.ListN.{get_or-map as get_mapped}
use Rattle.std.proofs.lemmas.List.{get_or_default, length-map}
use Rattle.std.proofs.Common.{arith}
use Rattle.svc_world.specs.World.{World}
use Rattle.svc_loan.specs.Kept.{KeptLoan}
use Rattle.svc_loan.specs.Loans.{held_in}
use Rattle.svc_custody.specs.Positions as rule
use Rattle.svc_custody.specs.Positions.{IsPosition}
use Rattle.svc_rules.specs.State.{world_of}
use Rattle.svc_custody.proofs.PositionLemmas.{IsReadIn, place_read, position_are, position_within, remitted_sum}
use Rattle.svc_custody.proofs.position.position_at.Given.{Over}
use Rattle.svc_custody.proofs.position.position_at.Goals as goal

-- the loan at the place can be read
asked : (g : Over) (c : goal.After-remitted g) → IsReadIn (world_of c.args.state.now.today c.args.state.now.loans c.args.state.now.seals) c.at.result.now
asked g c = place_read (world_of c.args.state.now.today c.args.state.now.loans c.args.state.now.seals) c.args.state.now.loans.loans c.args.place c.at.result.now c.at.result.now c.requires.read refl c.requires.place c.at.ensures

read : (g : Over) (c : goal.After-kept_position g) → IsReadIn (world_of c.args.state.now.today c.args.state.now.loans c.args.state.now.seals) c.at.result.now
read g c = place_read (world_of c.args.state.now.today c.args.state.now.loans c.args.state.now.seals) c.args.state.now.loans.loans c.args.place c.at.result.now c.at.result.now c.requires.read refl c.requires.place c.at.ensures

pub kept_position-requires-clause-limited : goal.kept_position-requires-clause-limited
kept_position-requires-clause-limited g c = (asked g c).limited

pub kept_position-requires-clause-remitted : goal.kept_position-requires-clause-remitted
kept_position-requires-clause-remitted g c = remitted_sum (world_of c.args.state.now.today c.args.state.now.loans c.args.state.now.seals) c.at.result.now (asked g c)

-- what was read off is the position of what is held
is : (g : Over) (c : goal.After-kept_position g) → c.kept_position.result ≡ rule.position_of (world_of c.args.state.now.today c.args.state.now.loans c.args.state.now.seals) c.at.result.now.held
is g c =
    c.kept_position.ensures
    ∙ ap (λ o. rule.kept_position o c.at.result.now) c.remitted.ensures.value
    ∙ position_are (world_of c.args.state.now.today c.args.state.now.loans c.args.state.now.seals) c.at.result.now (read g c)

pub returns-clause-value : goal.returns-clause-value
returns-clause-value g c = λ d.
    let w : World = world_of c.args.state.now.today c.args.state.now.loans c.args.state.now.seals in
    let ks = c.args.state.now.loans.loans in
    let k = c.at.result.now in
    let mapped = get_mapped (λ (j : KeptLoan). j.held) ks c.args.place k in
    let other = get_or_default (held_in ks) c.args.place d k.held (let le = length-map ks (λ (j : KeptLoan). j.held) in let lt = c.requires.place in omega (arith, le, lt)) in
    is g c ∙ ap (rule.position_of w) (ap (λ (j : KeptLoan). j.held) c.at.ensures ∙ sym mapped ∙ sym other)

pub returns-clause-limits : goal.returns-clause-limits
returns-clause-limits g c =
    let h = read g c in
    subst IsPosition (sym (is g c)) (position_within (world_of c.args.state.now.today c.args.state.now.loans c.args.state.now.seals) c.at.result.now.held h.limited h.reports)
