use Rattle.std.proofs.Common.{◌≡◌, ◌-◌, ℕ, rules, sym, ap}
use Rattle.std.specs.Prelude.{Option, is_some, unwrap_or}
use Rattle.std.specs.BTreeMap.{get}
use Rattle.bank_recon.specs.Keys.{key_cmp}
use Rattle.bank_recon.proofs.KeyLemmas.{counted_after}
use Rattle.bank_recon.proofs.counts.Counts.take.Goals as goal

pub returns-in-Some-clause-left : goal.returns-in-Some-clause-left
returns-in-Some-clause-left c = λ q.
    let m = c.args.self.now.counts in
    let v = c.in-Some.count.now in
    let had = c.in-Some.ensures.value in
    let w = c.saturating_sub.result in
    let made : w ≡ v - 1 = search rules in
    let u = ((c.get_mut.follows.holds w).3 (ap is_some (sym had))).0 in
    counted_after (get key_cmp m) (get key_cmp (c.get_mut.follows.lender w)) c.args.item.now q c.key_of.result v w (λ n. n - 1)
    c.key_of.ensures (ap (λ (o : Option ℕ). unwrap_or o 0) had) made u
