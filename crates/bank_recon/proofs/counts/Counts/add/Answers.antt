use Rattle.std.proofs.Common.{◌≡◌, ℕ, ◌+◌, arith, refl, ap, ◌∙◌}
use Rattle.std.specs.Prelude.{Option, unwrap_or}
use Rattle.std.specs.BTreeMap.{get}
use Rattle.bank_recon.specs.declared.key.ItemKey.{ItemKey}
use Rattle.bank_recon.specs.Counting.{count_in}
use Rattle.bank_recon.specs.Keys.{key_cmp}
use Rattle.bank_recon.proofs.KeyLemmas.{counted_after}
use Rattle.bank_recon.proofs.counts.Counts.add.Goals as goal

pub overflow_add-count : goal.overflow_add-count
overflow_add-count c =
    let m = c.args.self.now.counts in
    let had : c.unwrap_or-count.result ≡ count_in c.args.self.now c.args.item.now =
    c.unwrap_or-count.ensures ∙ ap (λ (o : Option ℕ). unwrap_or o 0) (c.copied.ensures ∙ c.get.ensures.value)
    ∙ ap (λ (k : ItemKey). unwrap_or (get key_cmp m k) 0) c.key_of-key.ensures in
    let r = c.requires in
    omega arith

pub returns : goal.returns
returns c = λ q.
    let m = c.args.self.now.counts in
    let v = c.unwrap_or-count.result in
    let had : v ≡ unwrap_or (get key_cmp m c.key_of-key.result) 0 =
    c.unwrap_or-count.ensures ∙ ap (λ (o : Option ℕ). unwrap_or o 0) (c.copied.ensures ∙ c.get.ensures.value) in
    counted_after (get key_cmp m) (get key_cmp c.insert.new.self) c.args.item.now q c.key_of-key.result v (v + 1) (λ n. n + 1)
    c.key_of-key.ensures had refl c.in_ok-insert.ensures.updates.0
