use Rattle.std.proofs.Common.{◌≡◌, ◌++◌, ◌∷◌, [], get_or, pos, sym, ap, ◌∙◌}
use Rattle.std.proofs.lemmas.List.{get_or_default}
use Rattle.custodial_book.specs.declared.part.Account.TheVariants.{T}
use Rattle.bank_recon.specs.declared.item.BankItem.{BankItem}
use Rattle.bank_recon.specs.Items.{item}
use Rattle.bank_recon.specs.declared.matching.Parted.{Parted}
use Rattle.bank_recon.proofs.MatchLemmas.{matched_yes, matched_no, counts_more}
use Rattle.bank_recon.proofs.matching.part_items.Goals as goal
use Rattle.bank_recon.proofs.matching.part_items.Goals.{then-take+in_ok-push, else-take+in_ok-push-2}

pub loop-item-preserved : goal.loop-item-preserved
loop-item-preserved c =
    let xs = c.args.items.now in
    let i = c.loop-item.item-index in
    let d : BankItem = item T 0 (pos 0) in
    let x : BankItem = get_or xs i d in
    let is : x ≡ get_or xs i x = get_or_default xs i d x c.loop-item-test.true in
    let inv = c.loop-item.invariant in
    elim c.if-take.branch [
      | then-take+in_ok-push w ↦
          let yes = matched_yes c.args.others.now xs i x _ c.loop-item-test.true is (inv.counts x) (sym w.if-take.ensures.taken) in
          record {
            matched = ap (λ (p : Parted). p.matched.items) w.parted-is ∙ w.in_ok-push.ensures.items ∙ ap (λ l. l ++ x ∷ []) inv.matched ∙ sym yes.0;
            left = ap (λ (p : Parted). p.left.items) w.parted-is ∙ inv.left ∙ sym yes.1;
            counts = λ q. counts_more c.args.others.now xs i x q _ _ c.loop-item-test.true is (inv.counts q) (c.take.ensures.left q);
          }
      | else-take+in_ok-push-2 w ↦
          let no_one = matched_no c.args.others.now xs i x _ c.loop-item-test.true is (inv.counts x) (sym w.if-take.ensures.taken) in
          record {
            matched = ap (λ (p : Parted). p.matched.items) w.parted-is ∙ inv.matched ∙ sym no_one.0;
            left = ap (λ (p : Parted). p.left.items) w.parted-is ∙ w.in_ok-push-2.ensures.items ∙ ap (λ l. l ++ x ∷ []) inv.left ∙ sym no_one.1;
            counts = λ q. counts_more c.args.others.now xs i x q _ _ c.loop-item-test.true is (inv.counts q) (c.take.ensures.left q);
          }
    ]
