-- How a run of a disk's calls goes on.
use Rattle.std.proofs.Common.{inl, inr, ⊎_elim, ℕ, List, arith}
use Rattle.serv_disk.specs.Disks.{Elapses, LeavesOnly, View}

module _ {D : Type 0} (view : D → View) where
  -- before the first call
  pub started : (old : D) (P : List ℕ → Type 0) → ((c : List ℕ) → (view old).since (view old).moment c → P c) → LeavesOnly view old old P
  started old P here = record { later = omega arith; each = here; before = λ t c le left. inl left }

  -- one call more, after which each image has P
  pub goes_on : (old mid new : D) (P : List ℕ → Type 0) → LeavesOnly view old mid P → Elapses (view mid) (view new) → ((c : List ℕ) → (view new).images c → P c) → LeavesOnly view old new P
  goes_on old mid new P so_far time here = record {
    later = omega (arith, so_far.later, time.later);
    each = λ c left. ⊎_elim (so_far.each c) (here c) (time.nothing_else (view old).moment c so_far.later left);
    before = λ t c le left. ⊎_elim (so_far.before t c le) (λ now. inr (here c now)) (time.nothing_else t c (omega (arith, le, so_far.later)) left);
  }

  -- what has P has Q
  pub weaker : (old new : D) (P Q : List ℕ → Type 0) → LeavesOnly view old new P → ((c : List ℕ) → P c → Q c) → LeavesOnly view old new Q
  weaker old new P Q run then = record {
    later = run.later;
    each = λ c left. then c (run.each c left);
    before = λ t c le left. ⊎_elim (λ past. inl past) (λ has. inr (then c has)) (run.before t c le left);
  }

  -- two runs, one after the other
  pub joined : (old mid new : D) (P : List ℕ → Type 0) → LeavesOnly view old mid P → LeavesOnly view mid new P → LeavesOnly view old new P
  joined old mid new P first second = record {
    later = omega (arith, first.later, second.later);
    each = λ c left. ⊎_elim (first.each c) (λ has. has) (second.before (view old).moment c first.later left);
    before = λ t c le left. ⊎_elim (first.before t c le) (λ has. inr has) (second.before t c (omega (arith, le, first.later)) left);
  }
