-- The text of what is found is that of the reconciliation.
use Rattle.std.proofs.Common.{◌≡◌, ◌≤◌, ℕ, List, ◌++◌, sym, ap, ◌∙◌, Vec, Global}
use Rattle.std.specs.Prelude.{Result, Ok, Err, IfOk}
use Rattle.custodial_book.specs.declared.part.Account.TheVariants.{T, P}
use Rattle.svc_world.specs.World.{Accepted}
use Rattle.bank_recon.specs.declared.item.BankItem.{BankItem}
use Rattle.bank_recon.specs.declared.recon.Reason.{Reason}
use Rattle.bank_recon.specs.Items.{items_in}
use Rattle.bank_recon.specs.Matching.{open_of, reasons_of}
use Rattle.bank_recon.specs.Reconciling.{sum_in, book_of}
use Rattle.bank_recon.specs.Reading.{Reading, IsReading}
use Rattle.bank_recon.specs.Texts.{span_line, text_of_found, text_of_recon, text_of_reading, IsReconText}
use Rattle.bank_recon.proofs.SpanLemmas.{book_is}

pub found_is : (carried bank items out : List BankItem) (uns : List (BankItem × Reason)) (first last : ℕ) (h : List Accepted) → 1 ≤ first → first ≤ last → items ≡ items_in carried first last h → out ≡ open_of items bank → uns ≡ reasons_of items bank
    → span_line first last ++ text_of_found (sum_in T items) (sum_in P items) bank out uns ≡ text_of_recon carried bank first last h
unfolding text_of_recon
found_is carried bank items out uns first last h low high is o u =
    let all = items_in carried first last h in
    let t : sum_in T items ≡ book_of T carried first last h = ap (sum_in T) is ∙ sym (book_is T carried first last h low high) in
    let p : sum_in P items ≡ book_of P carried first last h = ap (sum_in P) is ∙ sym (book_is P carried first last h low high) in
    let line = span_line first last in
    ap (λ z. line ++ text_of_found z (sum_in P items) bank out uns) t
    ∙ ap (λ z. line ++ text_of_found (book_of T carried first last h) z bank out uns) p
    ∙ ap (λ l. line ++ text_of_found (book_of T carried first last h) (book_of P carried first last h) bank l uns) (o ∙ ap (λ xs. open_of xs bank) is)
    ∙ ap (λ l. line ++ text_of_found (book_of T carried first last h) (book_of P carried first last h) bank (open_of all bank) l) (u ∙ ap (λ xs. reasons_of xs bank) is)

-- a text of a reading is the text
pub texts_told : {E : Type 0} (r : Result (Vec ℕ Global) E) (h : List Accepted) (first last : ℕ) (bytes : List ℕ) (x : Reading) → IsReading bytes x → IfOk r (λ t. t.items ≡ text_of_reading x first last h) → IfOk r (λ t. IsReconText h first last bytes t.items)
texts_told (Ok t) h first last bytes x read is = record { reading = x; read = read; is = is }
texts_told (Err e) h first last bytes x read is = tt
