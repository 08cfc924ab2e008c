use Rattle.std.proofs.Common.{◌≡◌, ◌+◌, ◌++◌, ◌∷◌, [], ℕ, List, length, arith, rules, sym, ap, subst, ◌∙◌, length-append}
use Rattle.std.specs.Prelude.{None}
use Rattle.std.specs.List.{All}
use Rattle.std.proofs.lemmas.List.{length_push}
use Rattle.svc_types.specs.declared.terms.Terms.{Terms}
use Rattle.svc_world.specs.World.{accepted}
use Rattle.svc_core.specs.declared.brief.Brief.{Brief}
use Rattle.svc_core.specs.Briefs.{terms_in, brief_of, StandsWithin}
use Rattle.svc_core.specs.Posted.{PostedCommands, number_of, history_of, pairs_of}
use Rattle.svc_core.proofs.BriefLemmas.{few_terms}
use Rattle.svc_core.proofs.PostedLemmas.{pairs_next, stands_last, within_next, history_length}
use Rattle.svc_core.proofs.posted.Posted.push.Goals as goal

-- the command stands last
last : (c : goal.After-push) → c.insert.new.self.entries ≡ c.self.inside.commands.entries ++ (c.args.key.now, brief_of (length c.self.inside.terms.items) c.args.command.now) ∷ []
last c =
    let ts = c.self.inside.terms.items in
    let es = c.self.inside.commands.entries in
    let key = c.args.key.now in
    let none : number_of (history_of (pairs_of ts es)) key ≡ None = ap (λ (p : PostedCommands). number_of p.history key) c.self.view_is ∙ c.requires.key in
    let count : c.len-place.result ≡ length ts = search rules in
    let brief : c.brief_of.result ≡ brief_of (length ts) c.args.command.now = c.brief_of.ensures ∙ ap (λ n. brief_of n c.args.command.now) count in
    stands_last c.self.inside.commands c.insert.new.self.entries ts key c.brief_of.result c.in-Ok.ensures.entries none
    ∙ ap (λ (b : Brief). es ++ (key, b) ∷ []) brief

pub returns-clause-history : goal.returns-clause-history
returns-clause-history c =
    let ts = c.self.inside.terms.items in
    let es = c.self.inside.commands.entries in
    let key = c.args.key.now in
    let command = c.args.command.now in
    ap (λ (all : List Terms). history_of (pairs_of all c.insert.new.self.entries)) c.keep_terms.ensures.items
    ∙ ap (λ (ps : List (List ℕ × Brief)). history_of (pairs_of (ts ++ terms_in command) ps)) (last c)
    ∙ pairs_next ts es key command c.self.invariant.within
    ∙ ap (λ (p : PostedCommands). p.history ++ accepted key command ∷ []) c.self.view_is

pub invariant_of-self : goal.invariant_of-self
invariant_of-self c =
    let ts = c.self.inside.terms.items in
    let es = c.self.inside.commands.entries in
    let all = c.keep_terms.new.terms.items in
    let command = c.args.command.now in
    let longer : length c.insert.new.self.entries ≡ length es + 1 = ap length (last c) ∙ length_push es _ in
    let counted = history_length ts es in
    let seen : length (history_of (pairs_of ts es)) ≡ length c.args.self.now.history = ap (λ (p : PostedCommands). length p.history) c.self.view_is in
    let more : length all ≡ length ts + length (terms_in command) = ap length c.keep_terms.ensures.items ∙ length-append ts (terms_in command) in
    let one = few_terms command in
    record {
      few = omega (arith, longer, counted, seen, c.requires.few);
      replied = ap length c.push.ensures ∙ length_push c.self.inside.replies.list _ ∙ ap (λ n. n + 1) c.self.invariant.replied ∙ sym longer;
      few_terms = omega (arith, longer, more, one, c.self.invariant.few_terms);
      within = subst (All (λ (p : List ℕ × Brief). StandsWithin (length all) p.1)) (sym (last c)) (within_next ts all es c.args.key.now command c.keep_terms.ensures.items c.self.invariant.within);
    }
