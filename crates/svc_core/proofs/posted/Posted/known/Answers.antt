use Rattle.std.proofs.Common.{◌≡◌, ◌-◌, ◌≤◌, ℕ, List, length, get_or, arith, sym, ap, subst, ◌∙◌}
use Rattle.std.proofs.Math.ListN.{get_or-map as get_mapped}
use Rattle.std.specs.Prelude.{Some, None, slice_get}
use Rattle.std.proofs.lemmas.Option.{get_or_from_slice_get}
use Rattle.std.specs.Map.{values_of}
use Rattle.svc_types.specs.declared.terms.Terms.{Terms}
use Rattle.svc_types.specs.declared.requests.Command.{Command}
use Rattle.svc_types.specs.declared.replies.Reply.{Reply}
use Rattle.svc_world.specs.World.{Accepted, accepted}
use Rattle.svc_core.specs.declared.brief.Brief.{Brief}
use Rattle.svc_core.specs.Briefs.{command_of, StandsWithin}
use Rattle.svc_core.specs.Posted.{PostedCommands, number_of, known_as, known_among, history_of, pairs_of}
use Rattle.svc_core.proofs.PostedLemmas.{known_at_place, known_nothing, number_within, history_length}
use Rattle.svc_core.proofs.posted.Posted.known.Goals as goal

-- the number that was found, from 1, is at most that of the last command
place_within : (ts : List Terms) (es : List (List ℕ × Brief)) (key : List ℕ) (n : ℕ) → number_of (history_of (pairs_of ts es)) key ≡ Some n → (1 ≤ n) × (n ≤ length es)
place_within ts es key n e =
    let at = number_within 1 (history_of (pairs_of ts es)) key n e in
    let low = at.0 in
    let high = at.1 in
    (low, omega (arith, high, history_length ts es))

pub overflow_sub-place : goal.overflow_sub-place
overflow_sub-place c = (place_within c.self.inside.terms.items c.self.inside.commands.entries c.args.key.now c.in-Some.number (ap (λ (p : PostedCommands). number_of p.history c.args.key.now) c.self.view_is ∙ sym c.number_of.ensures ∙ c.in-Some.is)).0

pub index-requires : goal.index-requires
index-requires c =
    let there = place_within c.self.inside.terms.items c.self.inside.commands.entries c.args.key.now c.in-Some.number (ap (λ (p : PostedCommands). number_of p.history c.args.key.now) c.self.view_is ∙ sym c.number_of.ensures ∙ c.in-Some.is) in
    let low = there.0 in
    let high = there.1 in
    omega (arith, low, high)

pub get-requires-clause-some : goal.get-requires-clause-some
get-requires-clause-some c = (place_within c.self.inside.terms.items c.self.inside.commands.entries c.args.key.now c.in-Some.number (ap (λ (p : PostedCommands). number_of p.history c.args.key.now) c.self.view_is ∙ sym c.number_of.ensures ∙ c.in-Some.is)).0

pub get-requires-clause-few : goal.get-requires-clause-few
get-requires-clause-few c =
    let there = place_within c.self.inside.terms.items c.self.inside.commands.entries c.args.key.now c.in-Some.number (ap (λ (p : PostedCommands). number_of p.history c.args.key.now) c.self.view_is ∙ sym c.number_of.ensures ∙ c.in-Some.is) in
    let high = there.1 in
    omega (arith, high, c.self.invariant.replied)

-- what is kept at the place
brief_here : (es : List (List ℕ × Brief)) (i : ℕ) (key : List ℕ) (b : Brief) → slice_get (values_of es) i ≡ Some b → (let x : List ℕ × Brief = (key, b) in (get_or es i x).1 ≡ b)
brief_here es i key b there =
    let x : List ℕ × Brief = (key, b) in
    sym (get_mapped (λ (p : List ℕ × Brief). p.1) es i x) ∙ get_or_from_slice_get (values_of es) i b b there

pub command_of-command-requires : goal.command_of-command-requires
command_of-command-requires c =
    let es = c.self.inside.commands.entries in
    let i = c.in-Some.number - 1 in
    let b = c.index.result.now in
    let x : List ℕ × Brief = (c.args.key.now, b) in
    let there = place_within c.self.inside.terms.items c.self.inside.commands.entries c.args.key.now c.in-Some.number (ap (λ (p : PostedCommands). number_of p.history c.args.key.now) c.self.view_is ∙ sym c.number_of.ensures ∙ c.in-Some.is) in
    let low = there.0 in
    let high = there.1 in
    subst (λ (ts : List Terms). StandsWithin (length ts) b) (sym c.deref.ensures.value) (subst (StandsWithin (length c.self.inside.terms.items)) (brief_here es i c.args.key.now b c.index.ensures) (c.self.invariant.within i x (omega (arith, low, high))))

pub returns-in-Some : goal.returns-in-Some
returns-in-Some c =
    let ts = c.self.inside.terms.items in
    let es = c.self.inside.commands.entries in
    let ps = pairs_of ts es in
    let rs = c.self.inside.replies.list in
    let i = c.in-Some.number - 1 in
    let b = c.index.result.now in
    let k = command_of ts b in
    let r = c.get.result in
    let key = c.args.key.now in
    let x : List ℕ × Brief = (key, b) in
    let y : List ℕ × Command = (key, k) in
    let same : length rs ≡ length (history_of ps) = c.self.invariant.replied ∙ sym (history_length ts es) in
    let at = known_at_place 1 (history_of ps) rs key c.in-Some.number (accepted key k) r same (ap (λ (p : PostedCommands). number_of p.history key) c.self.view_is ∙ sym c.number_of.ensures ∙ c.in-Some.is) in
    let command : (get_or (history_of ps) i (accepted key k)).command ≡ k =
    ap (λ (a : Accepted). a.command) (get_mapped (λ (p : List ℕ × Command). accepted p.0 p.1) ps i y)
    ∙ ap (λ (p : List ℕ × Command). p.1) (get_mapped (λ (p : List ℕ × Brief). (p.0, command_of ts p.1)) es i x)
    ∙ ap (command_of ts) (brief_here es i key b c.index.ensures) in
    let said : get_or rs i r ≡ r = get_or_from_slice_get rs i r r (sym c.get.ensures) in
    let is : c.command_of-command.result ≡ k = c.command_of-command.ensures ∙ ap (λ (all : List Terms). command_of all b) c.deref.ensures.value in
    subst (λ (p : PostedCommands). Some (known_as c.command_of-command.result r) ≡ known_among p.history p.replies key) c.self.view_is
    (ap (λ (z : Command). Some (known_as z r)) is ∙ sym (at ∙ ap (λ (z : Command). Some (known_as z (get_or rs i r))) command ∙ ap (λ (q : Reply). Some (known_as k q)) said))

pub returns-in-None : goal.returns-in-None
returns-in-None c =
    let none : number_of c.args.self.now.history c.args.key.now ≡ None = sym c.number_of.ensures ∙ c.in-None.is in
    sym (known_nothing 1 c.args.self.now.history c.args.self.now.replies c.args.key.now none)
