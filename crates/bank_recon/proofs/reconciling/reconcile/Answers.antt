use Rattle.std.proofs.Common.{◌≡◌, ◌∙◌, ap, subst}
use Rattle.std.specs.Prelude.{List, IfOk}
use Rattle.bank_recon.specs.declared.item.BankItem.{BankItem}
use Rattle.bank_recon.specs.Items.{items_in}
use Rattle.bank_recon.specs.Reconciling.{IsRecon}
use Rattle.bank_recon.proofs.ReconLemmas.{recon_told}
use Rattle.bank_recon.proofs.reconciling.reconcile.Goals as goal

pub returns-clause-recon : goal.returns-clause-recon
returns-clause-recon g c =
    let h = c.args.core.now.history in
    let carried : List BankItem = c.args.input.now.carried.items in
    let is : c.deref-2.result.now ≡ items_in carried c.args.first c.args.last h =
    c.deref-2.ensures.value ∙ c.in_ok-items.ensures ∙ ap (λ (l : List BankItem). items_in l c.args.first c.args.last h) c.deref.ensures.value in
    subst (λ (b : List BankItem). IfOk c.recon_of.result (IsRecon carried b c.args.first c.args.last h)) c.deref-3.ensures.value
    (recon_told c.recon_of.result carried c.deref-3.result.now c.deref-2.result.now c.args.first c.args.last h c.requires.first c.requires.last is
    c.recon_of.ensures.outstanding c.recon_of.ensures.unbooked c.recon_of.ensures.matched)
