-- What a sink notes of a text that is written in pieces.
use Rattle.std.proofs.Common.{◌≡◌, ℕ, ◌+◌, ◌≤◌, List, [], ◌∷◌, ◌++◌, length, take, sym, ap, subst, ◌∙◌, refl, arith, append-nil, append_assoc, length-append, length-take}
use Rattle.std.specs.Prelude.{Option, Some, None}
use Rattle.std.specs.Io.KnownBytes.{Appends}
use Rattle.serv_disk.specs.Stamps.{Stamp, stamp, Adds, AreAt, Notes}

pub adds_nil : (log : Option (List Stamp)) → Adds log log []
adds_nil None = tt
adds_nil (Some stamps) = sym (append-nil stamps)

pub adds_trans : (l0 l1 l2 : Option (List Stamp)) (xs ys : List Stamp) → Adds l0 l1 xs → Adds l1 l2 ys → Adds l0 l2 (xs ++ ys)
adds_trans None l1 l2 xs ys a b = tt
adds_trans (Some s) None l2 xs ys a b = absurd a
adds_trans (Some s) (Some t) None xs ys a b = absurd b
adds_trans (Some s) (Some t) (Some u) xs ys a b = b ∙ ap (λ l. l ++ ys) a ∙ append_assoc s xs ys

pub at_wider : (at most more : ℕ) (stamps : List Stamp) → most ≤ more → AreAt at most stamps → AreAt at more stamps
at_wider at most more [] le all = tt
at_wider at most more (s ∷ stamps) le all = (all.0, omega (arith, le, all.1), at_wider at most more stamps le all.2)

pub at_both : (at most : ℕ) (xs ys : List Stamp) → AreAt at most xs → AreAt at most ys → AreAt at most (xs ++ ys)
at_both at most [] ys all more = more
at_both at most (x ∷ xs) ys all more = (all.0, all.1, at_both at most xs ys all.2 more)

-- none is noted
pub notes_none : (at most : ℕ) (log : Option (List Stamp)) → Notes at most log log
notes_none at most log = record { stamps = []; added = adds_nil log; each = tt }

-- more bytes may be held
pub notes_wider : (at most more : ℕ) (log log' : Option (List Stamp)) → most ≤ more → Notes at most log log' → Notes at more log log'
notes_wider at most more log log' le n = record { stamps = n.stamps; added = n.added; each = at_wider at most more n.stamps le n.each }

-- one more is noted, after a piece of n bytes
pub notes_more : (at n : ℕ) (s now : List ℕ) (i : ℕ) (l0 l1 l2 : Option (List Stamp)) → length now ≡ length s + i → Notes at (length s + i) l0 l1 → Adds l1 l2 (stamp at (length now + n) ∷ [])
    → Notes at (length s + (i + n)) l0 l2
notes_more at n s now i l0 l1 l2 long before one = record {
  stamps = before.stamps ++ stamp at (length now + n) ∷ [];
  added = adds_trans l0 l1 l2 before.stamps (stamp at (length now + n) ∷ []) before.added one;
  each = at_both at (length s + (i + n)) before.stamps (stamp at (length now + n) ∷ [])
      (at_wider at (length s + i) (length s + (i + n)) before.stamps (omega arith) before.each) (refl, omega (arith, long), tt);
}

-- what is held, where it was told
pub held_after : (held held' : Option (List ℕ)) (s text : List ℕ) → held ≡ Some s → Appends held held' text → held' ≡ Some (s ++ text)
held_after None held' s text told wrote = cc
held_after (Some xs) None s text told wrote = absurd wrote
held_after (Some xs) (Some ys) s text told wrote = cc

-- the moment is the one at which it was shown the disk
pub notes_at : (log log' : Option (List Stamp)) (mark at most : ℕ) → ((stamps : List Stamp) → log ≡ Some stamps → mark ≡ at) → Notes mark most log log' → Notes at most log log'
notes_at None log' mark at most is n = record { stamps = []; added = tt; each = tt }
notes_at (Some stamps) log' mark at most is n = subst (λ t. Notes t most (Some stamps) log') (is stamps refl) n

-- how much is held with the front of a text
pub held_long : (s text : List ℕ) (i : ℕ) → i ≤ length text → length (s ++ take i text) ≡ length s + i
held_long s text i le =
    let all = length-append s (take i text) in
    let front = length-take i text in
    omega (arith, all, front, le)
