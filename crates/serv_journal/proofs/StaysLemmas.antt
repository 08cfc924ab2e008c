-- Runs of calls that leave a disk as it was.
use Rattle.std.proofs.Common.{◌≡◌, ℕ, List, ◌∙◌, refl}
use Rattle.serv_disk.specs.Disks.{Each, Elapses, LeavesOnly, View}
use Rattle.serv_disk.proofs.Moments.{started, goes_on, weaker, joined}
use Rattle.serv_journal.specs.Stays.{Stays}

module _ {D : Type 0} (view : D → View) where
  -- before the first call
  pub stays_here : (old : D) → ((c : List ℕ) → (view old).since (view old).moment c → (view old).images c) → Stays view old old
  stays_here old here = record { told = refl; crash = λ c h. h; moments = started view old (view old).images here }

  -- one call more
  pub stays_call : (old mid new : D) → Stays view old mid → (view new).seen ≡ (view mid).seen → Each (view new).images (view mid).images
      → Elapses (view mid) (view new) → Stays view old new
  stays_call old mid new so_far told crash time = record {
    told = told ∙ so_far.told;
    crash = λ c h. so_far.crash c (crash c h);
    moments = goes_on view old mid new (view old).images so_far.moments time (λ c h. so_far.crash c (crash c h));
  }

  -- two runs
  pub stays_on : (old mid new : D) → Stays view old mid → Stays view mid new → Stays view old new
  stays_on old mid new first second = record {
    told = second.told ∙ first.told;
    crash = λ c h. first.crash c (second.crash c h);
    moments = joined view old mid new (view old).images first.moments (weaker view mid new (view mid).images (view old).images second.moments (λ c h. first.crash c h));
  }

  -- a run that leaves the disk as it was, and one that does not
  pub stays_then : (old mid new : D) (P : List ℕ → Type 0) → Stays view old mid → Each (view old).images P → LeavesOnly view mid new P → LeavesOnly view old new P
  stays_then old mid new P first each second = joined view old mid new P (weaker view old mid (view old).images P first.moments each) second

  -- one call
  pub stays_once : (old new : D) → ((c : List ℕ) → (view old).since (view old).moment c → (view old).images c) → (view new).seen ≡ (view old).seen → Each (view new).images (view old).images
      → Elapses (view old) (view new) → Stays view old new
  stays_once old new here told crash time = stays_call old old new (stays_here old here) told crash time
