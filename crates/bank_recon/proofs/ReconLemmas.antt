-- What is found of the items of a span is its reconciliation.
use Rattle.std.proofs.Common.{◌≡◌, ◌≤◌, ℕ, List, [], ◌++◌, sym, ap, ◌∙◌, subst}
use Rattle.std.specs.Prelude.{Result, Ok, Err, IfOk, ◌+ℤ◌, ◌-ℤ◌}
use Rattle.std.specs.List.Sorted.{IsPermutation}
use Rattle.custodial_book.specs.declared.part.Account.{Account}
use Rattle.svc_world.specs.World.{Accepted}
use Rattle.bank_recon.specs.declared.item.BankItem.{BankItem}
use Rattle.bank_recon.specs.declared.recon.Recon.{Recon}
use Rattle.bank_recon.specs.declared.recon.Reason.{Reason}
use Rattle.bank_recon.specs.Items.{items_in}
use Rattle.bank_recon.specs.Matching.{matched_of, open_of, unbooked_of, reasons_of}
use Rattle.bank_recon.specs.Reconciling.{sum_in, lines_of, AgreesIn, IsRecon}
use Rattle.bank_recon.proofs.PairLemmas.{once, bank_once, lines_are, sums_agree}
use Rattle.bank_recon.proofs.SpanLemmas.{book_is}

agrees_in : (account : Account) (carried bank : List BankItem) (first last : ℕ) (h : List Accepted) (r : Recon) → 1 ≤ first → first ≤ last → r.outstanding.items ≡ open_of (items_in carried first last h) bank → r.unbooked.items ≡ reasons_of (items_in carried first last h) bank → AgreesIn account carried bank first last h r
agrees_in account carried bank first last h r low high o u =
    let items = items_in carried first last h in
    let lines : lines_of r.unbooked.items ≡ unbooked_of items bank = ap lines_of u ∙ lines_are items (open_of items bank) (unbooked_of items bank) in
    book_is account carried first last h low high ∙ sums_agree account items bank
    ∙ ap (λ l. sum_in account bank +ℤ sum_in account l -ℤ sum_in account (unbooked_of items bank)) (sym o)
    ∙ ap (λ l. sum_in account bank +ℤ sum_in account r.outstanding.items -ℤ sum_in account l) (sym lines)

recon_is : (carried bank : List BankItem) (first last : ℕ) (h : List Accepted) (r : Recon) → 1 ≤ first → first ≤ last → r.outstanding.items ≡ open_of (items_in carried first last h) bank → r.unbooked.items ≡ reasons_of (items_in carried first last h) bank → r.matched.items ≡ matched_of (items_in carried first last h) bank → IsRecon carried bank first last h r
recon_is carried bank first last h r low high o u m =
    let items = items_in carried first last h in
    record {
      outstanding = o;
      unbooked = u;
      matched = m;
      items_once = subst (λ xs. IsPermutation items (xs ++ r.outstanding.items)) (sym m) (subst (λ ys. IsPermutation items (matched_of items bank ++ ys)) (sym o) (once bank [] items));
      lines_once = subst (λ xs. IsPermutation bank (xs ++ lines_of r.unbooked.items)) (sym m) (subst (λ (ys : List (BankItem × Reason)). IsPermutation bank (matched_of items bank ++ lines_of ys)) (sym u) (bank_once items bank));
      agrees = λ account. agrees_in account carried bank first last h r low high o u;
    }

pub recon_told : {E : Type 0} (r : Result Recon E) (carried bank items : List BankItem) (first last : ℕ) (h : List Accepted) → 1 ≤ first → first ≤ last → items ≡ items_in carried first last h
    → IfOk r (λ (x : Recon). x.outstanding.items ≡ open_of items bank) → IfOk r (λ (x : Recon). x.unbooked.items ≡ reasons_of items bank) → IfOk r (λ (x : Recon). x.matched.items ≡ matched_of items bank)
    → IfOk r (IsRecon carried bank first last h)
recon_told (Ok x) carried bank items first last h low high is o u m =
    recon_is carried bank first last h x low high (o ∙ ap (λ xs. open_of xs bank) is) (u ∙ ap (λ xs. reasons_of xs bank) is) (m ∙ ap (λ xs. matched_of xs bank) is)
recon_told (Err e) carried bank items first last h low high is o u m = tt
