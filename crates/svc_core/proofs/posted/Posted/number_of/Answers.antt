use Rattle.std.proofs.Common.{◌+◌, ap, sym, ◌∙◌}
use Rattle.std.specs.Option.{option_map}
use Rattle.svc_core.specs.Posted.{PostedCommands, number_of}
use Rattle.svc_core.proofs.PostedLemmas.{number_at_key}
use Rattle.svc_core.proofs.posted.Posted.number_of.Goals as goal

pub returns-in-Some : goal.returns-in-Some
returns-in-Some c =
    ap (option_map (λ k. k + 1)) (sym c.in-Some.is ∙ c.get_index_of.ensures.index)
    ∙ number_at_key c.self.inside.terms.items c.self.inside.commands.entries c.args.key.now
    ∙ ap (λ (p : PostedCommands). number_of p.history c.args.key.now) c.self.view_is

pub returns-in-None : goal.returns-in-None
returns-in-None c =
    ap (option_map (λ k. k + 1)) (sym c.in-None.is ∙ c.get_index_of.ensures.index)
    ∙ number_at_key c.self.inside.terms.items c.self.inside.commands.entries c.args.key.now
    ∙ ap (λ (p : PostedCommands). number_of p.history c.args.key.now) c.self.view_is
