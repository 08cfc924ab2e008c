-- What was answered stays on the disk.
use Rattle.std.proofs.Common.{◌≡◌, ℕ, ◌+◌, ◌≤◌, List, [], ◌∷◌, ◌++◌, length, sym, ap, subst, ◌∙◌, arith, ⊎_elim, inl, append-nil, append_assoc, length-append}
use Rattle.std.specs.Prelude.{Option, Some}
use Rattle.std.specs.Io.KnownBytes.{Appends}
use Rattle.svc_world.specs.World.{Accepted}
use Rattle.serv_disk.specs.Disks.{Each, View}
use Rattle.serv_disk.specs.Stamps.{Stamp, AreAt, Notes}
use Rattle.serv_disk.proofs.NotedLemmas.{adds_nil, adds_trans, held_after}
use Rattle.serv_machine.specs.History.{Store, History, in_store, with_commands}
use Rattle.serv_machine.specs.OnDisk.{HasHistory, IsAlong, IsLeft, OnDisk, HasCommands, IsUpheld, AreUpheld, UpholdsFrom, Upholds}
use Rattle.serv_machine.proofs.OnDiskLemmas.{along_after}

-- ---- what a content has

-- those before some that are in the same store
before : (commands list : List Accepted) (h' : History) → h'.commands ≡ commands ++ list → h' ≡ with_commands (in_store h'.store commands) list
before commands list h' is = ap (in_store h'.store) is

pub commands_here : (commands : List Accepted) (h' : History) (list : List Accepted) (file : List ℕ) → h'.commands ≡ commands ++ list → HasHistory h' file → HasCommands (in_store h'.store commands) file
commands_here commands h' list file is whole = record { later = list ++ []; along = along_after (in_store h'.store commands) list [] file (subst (λ x. HasHistory x file) (before commands list h' is) whole) }

-- after a call of the disk, also one that failed
pub commands_left : (images : List ℕ → Type 0) (commands : List Accepted) (h' : History) (list pending : List Accepted) → h'.commands ≡ commands ++ list → IsLeft images h' pending → Each images (HasCommands (in_store h'.store commands))
commands_left images commands h' list [] is left = λ c image. commands_here commands h' list c is (left c image)
commands_left images commands h' list (a ∷ more) is left = λ c image. record {
  later = list ++ a ∷ [];
  along = along_after (in_store h'.store commands) list (a ∷ []) c (subst (λ x. IsAlong x (a ∷ []) c) (before commands list h' is) (inl (left c image)));
}

pub commands_kept : (images : List ℕ → Type 0) (h : History) → Each images (HasHistory h) → Each images (HasCommands h)
commands_kept images h each = λ c image. commands_here h.commands h [] c (sym (append-nil h.commands)) (each c image)

-- ---- writes that are upheld

pub upheld_none : (Covers : ℕ → List Accepted → Type 0) (view : View) (now : History) (held : Option (List ℕ)) (log : Option (List Stamp))
    → Upholds Covers view now held log log
upheld_none Covers view now held log = λ s told. record { writes = []; noted = adds_nil log; each = tt }

writes_both : (Covers : ℕ → List Accepted → Type 0) (view : View) (now : History) (base : ℕ) (xs ys : List Stamp)
    → AreUpheld Covers view now base xs → AreUpheld Covers view now base ys → AreUpheld Covers view now base (xs ++ ys)
writes_both Covers view now base [] ys all more = more
writes_both Covers view now base (x ∷ xs) ys all more = (all.0, writes_both Covers view now base xs ys all.1 more)

-- of more requests these are the first too
module _ (Covers Wider : ℕ → List Accepted → Type 0) (view : View) (now : History) (then : (bytes : ℕ) (commands : List Accepted) → Covers bytes commands → Wider bytes commands) where
  writes_wider : (base : ℕ) (writes : List Stamp) → AreUpheld Covers view now base writes → AreUpheld Wider view now base writes
  writes_wider base [] all = tt
  writes_wider base (w ∷ writes) all =
      let is = all.0 in (
        record { bytes = is.bytes; commands = is.commands; covers = then is.bytes is.commands is.covers; within = is.within; kept = is.kept; past = is.past; rest = is.rest; now_is = is.now_is },
        writes_wider base writes all.1,
      )

  pub upheld_wider : (held : Option (List ℕ)) (log log' : Option (List Stamp)) → Upholds Covers view now held log log' → Upholds Wider view now held log log'
  upheld_wider held log log' up = λ s told. let all = up s told in record { writes = all.writes; noted = all.noted; each = writes_wider (length s) all.writes all.each }

-- the disk's calls go on
module _ {D : Type 0} (view : D → View) (old new : D) (now now' : History) (pending : List Accepted)
    (disk : OnDisk view old new now now' pending) (Covers : ℕ → List Accepted → Type 0) where
  write_later : (base : ℕ) (w : Stamp) → IsUpheld Covers (view old) now base w → IsUpheld Covers (view new) now' base w
  write_later base w is =
      let more : List Accepted = disk.list ++ pending in
      record {
        bytes = is.bytes;
        commands = is.commands;
        covers = is.covers;
        within = is.within;
        kept = λ c left.
            subst (λ (s : Store). HasCommands (in_store s is.commands) c) (sym disk.store)
            (⊎_elim
            (λ past. is.kept c past)
            (λ along. record { later = is.rest ++ more; along = along_after (in_store now.store is.commands) is.rest more c (subst (λ x. IsAlong x more c) (before is.commands is.rest now is.now_is) along) })
            (disk.moments.before w.at c is.past left));
        past = omega (arith, is.past, disk.moments.later);
        rest = is.rest ++ disk.list;
        now_is = disk.accepted ∙ ap (λ x. x ++ disk.list) is.now_is ∙ append_assoc is.commands is.rest disk.list;
      }

  writes_later : (base : ℕ) (writes : List Stamp) → AreUpheld Covers (view old) now base writes → AreUpheld Covers (view new) now' base writes
  writes_later base [] all = tt
  writes_later base (w ∷ writes) all = (write_later base w all.0, writes_later base writes all.1)

  pub upheld_later : (held : Option (List ℕ)) (log log' : Option (List Stamp)) → Upholds Covers (view old) now held log log' → Upholds Covers (view new) now' held log log'
  upheld_later held log log' up = λ s told. let all = up s told in record { writes = all.writes; noted = all.noted; each = writes_later (length s) all.writes all.each }

-- replies are written while the disk is as it is
module _ {D : Type 0} (view : D → View) (d : D) (only : (c : List ℕ) → (view d).since (view d).moment c → (view d).images c)
    (Covers : ℕ → List Accepted → Type 0) (now : History) (commands rest : List Accepted) (now_is : now.commands ≡ commands ++ rest) (has : Each (view d).images (HasCommands (in_store now.store commands))) (bytes : ℕ) (covers : Covers bytes commands) where
  writes_now : (base most : ℕ) → most ≤ base + bytes → (writes : List Stamp) → AreAt (view d).moment most writes → AreUpheld Covers (view d) now base writes
  writes_now base most small [] all = tt
  writes_now base most small (w ∷ writes) all = (
    record {
      bytes = bytes;
      commands = commands;
      covers = covers;
      within = omega (arith, small, all.1);
      kept = λ c left. has c (only c (subst (λ t. (view d).since t c) all.0 left));
      past = omega (arith, all.0);
      rest = rest;
      now_is = now_is;
    },
    writes_now base most small writes all.2,
  )

  from_noted : (base most : ℕ) → most ≤ base + bytes → (log log' log'' : Option (List Stamp)) → UpholdsFrom Covers (view d) now base log log'
      → Notes (view d).moment most log' log'' → UpholdsFrom Covers (view d) now base log log''
  from_noted base most small log log' log'' up notes = record {
    writes = up.writes ++ notes.stamps;
    noted = adds_trans log log' log'' up.writes notes.stamps up.noted notes.added;
    each = writes_both Covers (view d) now base up.writes notes.stamps up.each (writes_now base most small notes.stamps notes.each);
  }

  -- after what was written before, a text that ends within the replies
  pub upheld_written : (held held' : Option (List ℕ)) (written text : List ℕ) (log log' log'' : Option (List Stamp)) → Appends held held' written → length written + length text ≤ bytes
      → Upholds Covers (view d) now held log log' → ((x : List ℕ) → held' ≡ Some x → Notes (view d).moment (length x + length text) log' log'')
      → Upholds Covers (view d) now held log log''
  upheld_written held held' written text log log' log'' wrote small up notes = λ s told.
      let most : ℕ = length (s ++ written) + length text in
      let front = length-append s written in
      let fits : most ≤ length s + bytes = omega (arith, front, small) in
      from_noted (length s) most fits log log' log'' (up s told) (notes (s ++ written) (held_after held held' s written told wrote))

-- ---- a run after another one

-- others are written by a run that began where these ended
module _ (First Second Covers : ℕ → List Accepted → Type 0) (view : View) (now : History) (written : List ℕ)
    (here : (bytes : ℕ) (commands : List Accepted) → First bytes commands → Covers bytes commands) (then : (bytes : ℕ) (commands : List Accepted) → Second bytes commands → Covers (length written + bytes) commands) where
  writes_then : (s : List ℕ) (writes : List Stamp) → AreUpheld Second view now (length (s ++ written)) writes → AreUpheld Covers view now (length s) writes
  writes_then s [] all = tt
  writes_then s (w ∷ writes) all =
      let is = all.0 in
      let long = length-append s written in (
        record {
          bytes = length written + is.bytes;
          commands = is.commands;
          covers = then is.bytes is.commands is.covers;
          within = (let within = is.within in omega (arith, within, long));
          kept = is.kept;
          past = is.past;
          rest = is.rest;
          now_is = is.now_is;
        },
        writes_then s writes all.1,
      )

  pub upheld_then : (held held' : Option (List ℕ)) (log log' log'' : Option (List Stamp)) → Appends held held' written → Upholds First view now held log log' → Upholds Second view now held' log' log''
      → Upholds Covers view now held log log''
  upheld_then held held' log log' log'' wrote first second = λ s told.
      let before = upheld_wider First Covers view now here held log log' first s told in
      let after = second (s ++ written) (held_after held held' s written told wrote) in
      record {
        writes = before.writes ++ after.writes;
        noted = adds_trans log log' log'' before.writes after.writes before.noted after.noted;
        each = writes_both Covers view now (length s) before.writes after.writes before.each (writes_then s after.writes after.each);
      }
