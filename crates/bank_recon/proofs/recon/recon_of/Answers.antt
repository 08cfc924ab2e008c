use Rattle.std.proofs.Common.{[], subst, ◌∙◌}
use Rattle.std.specs.Prelude.{List, IsSome}
use Rattle.std.specs.List.{find}
use Rattle.bank_recon.specs.declared.item.BankItem.{BankItem}
use Rattle.bank_recon.specs.Items.{is_near}
use Rattle.bank_recon.proofs.FindLemmas.{left_is_near}
use Rattle.bank_recon.proofs.recon.recon_of.Goals as goal

pub reasons-requires : goal.reasons-requires
reasons-requires c = λ q h.
    let left = c.deref.ensures.value ∙ c.in_ok-of_items.ensures.left in
    left_is_near (is_near q) c.args.bank.now [] c.args.items.now (subst (λ (xs : List BankItem). IsSome (find (is_near q) xs)) left h)
