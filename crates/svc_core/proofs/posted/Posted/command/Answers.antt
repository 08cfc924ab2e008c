use Rattle.std.proofs.Common.{◌≡◌, ◌-◌, ◌<◌, ◌≤◌, ℕ, List, length, get_or, arith, refl, sym, ap, subst, ◌∙◌, ⊎_elim}
use Rattle.std.proofs.Math.ListN.{get_or-map as get_mapped}
use Rattle.std.specs.Prelude.{Some, slice_get}
use Rattle.std.proofs.lemmas.Bool.{cases_lt}
use Rattle.std.proofs.lemmas.Option.{get_or_from_slice_get}
use Rattle.svc_types.specs.declared.terms.Terms.{Terms}
use Rattle.svc_types.specs.declared.requests.Command.{Command}
use Rattle.svc_world.specs.World.{accepted}
use Rattle.svc_world.specs.Judging.{nth_accepted}
use Rattle.svc_core.specs.declared.brief.Brief.{Brief}
use Rattle.svc_core.specs.Briefs.{command_of, StandsWithin}
use Rattle.svc_core.specs.Posted.{PostedCommands, pairs_of}
use Rattle.svc_core.proofs.PostedLemmas.{nth_some, nth_none, pairs_length}
use Rattle.svc_core.proofs.posted.Posted.command.Goals as goal

pub command_of-requires : goal.command_of-requires
command_of-requires c =
    let ps = c.self.inside.commands.entries in
    let i = c.args.number - 1 in
    let x : List ℕ × Brief = (c.in-Some.key.now, c.in-Some.brief.now) in
    let there : slice_get ps i ≡ Some x = sym c.in-Some.ensures.entry in
    subst (λ (ts : List Terms). StandsWithin (length ts) c.in-Some.brief.now) (sym c.deref.ensures.value) (subst (λ (p : List ℕ × Brief). StandsWithin (length c.self.inside.terms.items) p.1) (get_or_from_slice_get ps i x x there) (c.self.invariant.within i x (c.in-Some.ensures.found.0 refl)))

pub returns-in-Some : goal.returns-in-Some
returns-in-Some c =
    let ts = c.self.inside.terms.items in
    let es = c.self.inside.commands.entries in
    let ps = pairs_of ts es in
    let n = c.args.number in
    let x : List ℕ × Brief = (c.in-Some.key.now, c.in-Some.brief.now) in
    let y : List ℕ × Command = (x.0, command_of ts x.1) in
    let there : slice_get es (n - 1) ≡ Some x = sym c.in-Some.ensures.entry in
    let within : n - 1 < length es = c.in-Some.ensures.found.0 refl in
    let some : 1 ≤ n = omega (arith, c.if-number-lt1.false) in
    let few : n ≤ length ps = omega (arith, within, pairs_length ts es) in
    let at : get_or ps (n - 1) y ≡ y =
    get_mapped (λ (p : List ℕ × Brief). (p.0, command_of ts p.1)) es (n - 1) x ∙ ap (λ (p : List ℕ × Brief). (p.0, command_of ts p.1)) (get_or_from_slice_get es (n - 1) x x there) in
    ap (λ (k : Command). Some (accepted x.0 k)) (c.command_of.ensures ∙ ap (λ (all : List Terms). command_of all x.1) c.deref.ensures.value)
    ∙ ap (λ (p : List ℕ × Command). Some (accepted p.0 p.1)) (sym at)
    ∙ nth_some ps n y some few ∙ ap (λ (p : PostedCommands). nth_accepted p.history n) c.self.view_is

pub returns-in-None : goal.returns-in-None
returns-in-None c =
    let ts = c.self.inside.terms.items in
    let es = c.self.inside.commands.entries in
    let n = c.args.number in
    let past : length es < n = ⊎_elim (λ less. absurd (let t = c.in-None.ensures.found.1 less in let e : ⊥ = cc in e)) (λ more. omega (arith, more, c.if-number-lt1.false)) (cases_lt (n - 1) (length es)) in
    let past' : length (pairs_of ts es) < n = omega (arith, past, pairs_length ts es) in
    sym (nth_none (pairs_of ts es) n past') ∙ ap (λ (p : PostedCommands). nth_accepted p.history n) c.self.view_is
