use Rattle.std.proofs.Common.{◌≡◌, ◌++◌, ◌∙◌, ap, sym}
use Rattle.std.specs.Prelude.{List, ℕ}
use Rattle.custodial_book.specs.declared.part.Account.TheVariants.{T, P}
use Rattle.bank_recon.specs.declared.item.BankItem.{BankItem}
use Rattle.bank_recon.specs.Items.{items_in}
use Rattle.bank_recon.specs.Matching.{open_of, reasons_of}
use Rattle.bank_recon.specs.Reconciling.{sum_in}
use Rattle.bank_recon.specs.Texts.{span_line, text_of_found, text_of_recon}
use Rattle.bank_recon.proofs.TextLemmas.{found_is}
use Rattle.bank_recon.proofs.text.text_of_lists.Goals as goal

pub returns : goal.returns
returns g c =
    let h = c.args.core.now.history in
    let first = c.args.first in
    let last = c.args.last in
    let carried : List BankItem = c.args.input.now.carried.items in
    let xs : List BankItem = c.deref-4.result.now in
    let b : List BankItem = c.deref-5.result.now in
    let r = c.in_ok-recon.recon in
    let is : xs ≡ items_in carried first last h =
    c.deref-4.ensures.value ∙ c.in_ok-items.ensures ∙ ap (λ (l : List BankItem). items_in l first last h) c.deref.ensures.value in
    let e : c.deref-2.result.now ≡ xs = c.deref-2.ensures.value ∙ sym c.deref-4.ensures.value in
    let f : c.deref-3.result.now ≡ b = c.deref-3.ensures.value ∙ sym c.deref-5.ensures.value in
    let o : r.outstanding.items ≡ open_of xs b =
    c.in_ok-recon.ensures.outstanding ∙ ap (λ (l : List BankItem). open_of l c.deref-3.result.now) e ∙ ap (λ (l : List BankItem). open_of xs l) f in
    let u : r.unbooked.items ≡ reasons_of xs b =
    c.in_ok-recon.ensures.unbooked ∙ ap (λ (l : List BankItem). reasons_of l c.deref-3.result.now) e ∙ ap (λ (l : List BankItem). reasons_of xs l) f in
    let found : List ℕ = text_of_found (sum_in T xs) (sum_in P xs) b r.outstanding.items r.unbooked.items in
    let span : c.push_span.new.out.items ≡ span_line first last =
    c.in_ok-push_span.ensures ∙ ap (λ (l : List ℕ). l ++ span_line first last) c.new-out.ensures.items in
    c.in_ok-push_found.ensures ∙ ap (λ (l : List ℕ). l ++ found) span
    ∙ found_is carried b xs r.outstanding.items r.unbooked.items first last h c.requires.first c.requires.last is o u
    ∙ ap (λ (l : List BankItem). text_of_recon carried l first last h) c.deref-5.ensures.value
