-- What a write leaves of a file of which the beginning is known.
use Rattle.std.proofs.Common.{◌≡◌, ◌⊎◌, ℕ, ◌+◌, ◌<◌, ◌≤◌, List, [], ◌∷◌, ◌++◌, length, take, drop, get_or, max, refl, sym, ap, subst, ◌∙◌, ⊎_elim, arith, append_assoc, length-append}
use Rattle.std.proofs.lemmas.List.{take_at, drop_at, take-append-drop, take-take, drop_more}
use Rattle.serv_images.specs.CutShort.{TornAt}
use Rattle.serv_disk.specs.Disks.{Holds}
use Rattle.serv_journal.specs.Bytes.{Starts, Between}

-- the first bytes of a file that begins with a list
pub starts_take : (front file : List ℕ) (n : ℕ) → length front ≡ n → Starts front file → take n file ≡ front
starts_take front file n long starts = rw starts.is (take_at front starts.tail n long)

pub taken_starts : (front file : List ℕ) (n : ℕ) → take n file ≡ front → Starts front file
taken_starts front file n taken = record { tail = drop n file; is = sym (ap (λ x. x ++ drop n file) (sym taken) ∙ take-append-drop n file) }

-- a file that begins with two lists begins with the first
pub first_starts : (front rest file : List ℕ) → Starts (front ++ rest) file → Starts front file
first_starts front rest file starts = record { tail = rest ++ starts.tail; is = starts.is ∙ append_assoc front rest starts.tail }

pub starts_fits : (front file : List ℕ) → Starts front file → length front ≤ length file
starts_fits front file starts = omega (arith, ap length starts.is, length-append front starts.tail)

-- bytes written after a list
pub holds_after : (front bytes d c : List ℕ) (at : ℕ) → Starts front d → length front ≡ at → Holds at bytes d c → Starts (front ++ bytes) c
holds_after front bytes d c at starts long holds =
    let first : take at d ≡ front = starts_take front d at long starts in
    record { tail = drop (at + length bytes) d; is = holds ∙ ap (λ x. x ++ bytes ++ drop (at + length bytes) d) first }

pub torn_after : (front d c : List ℕ) (at n : ℕ) → Starts front d → length front ≤ at → TornAt at n d c → Starts front c
torn_after front d c at n starts long torn =
    taken_starts front c (length front)
    (sym (take-take (length front) at c long) ∙ (ap (take (length front)) torn.before ∙ (take-take (length front) at d long ∙ starts_take front d (length front) refl starts)))

-- what comes after a list and one byte
rest_of : (front rest d : List ℕ) (at : ℕ) → (between : Between front rest d) → length front ≡ at → (take at d ≡ front) × (drop (at + 1) d ≡ rest ++ between.starts.tail)
rest_of front rest d at between long =
    let whole : d ≡ front ++ (between.byte ∷ (rest ++ between.starts.tail)) = between.starts.is ∙ append_assoc front (between.byte ∷ rest) between.starts.tail in
    let more : d ≡ (front ++ between.byte ∷ []) ++ (rest ++ between.starts.tail) = whole ∙ sym (append_assoc front (between.byte ∷ []) (rest ++ between.starts.tail)) in (
      rw whole (take_at front (between.byte ∷ (rest ++ between.starts.tail)) at long),
      rw more (drop_at (front ++ between.byte ∷ []) (rest ++ between.starts.tail) (at + 1) (omega (arith, length-append front (between.byte ∷ [])))),
    )

-- one byte written between a list and what comes after it
pub holds_byte : (front rest d c : List ℕ) (at value : ℕ) → Between front rest d → length front ≡ at → Holds at (value ∷ []) d c → Starts (front ++ value ∷ rest) c
holds_byte front rest d c at value between long holds =
    let parts = rest_of front rest d at between long in
    record {
      tail = between.starts.tail;
      is = holds ∙ (ap (λ x. x ++ value ∷ [] ++ drop (at + 1) d) parts.0 ∙ (ap (λ x. front ++ value ∷ [] ++ x) parts.1
          ∙ (append_assoc front (value ∷ []) (rest ++ between.starts.tail) ∙ sym (append_assoc front (value ∷ rest) between.starts.tail))));
    }

longer : (a b n : ℕ) → n < b → (a ≡ b) ⊎ (a ≡ max b (n + 1)) → n < a
longer a b n less size = ⊎_elim (λ e. omega arith) (λ e. omega arith) size

pub torn_byte : (front rest d c : List ℕ) (at : ℕ) → Between front rest d → length front ≡ at → TornAt at 1 d c → Between front rest c
torn_byte front rest d c at between long torn =
    let parts = rest_of front rest d at between long in
    let reach : at < length d = omega (arith, ap length between.starts.is, length-append (front ++ between.byte ∷ rest) between.starts.tail, length-append front (between.byte ∷ rest)) in
    let within : at < length c = longer (length c) (length d) at reach torn.size in
    record {
      byte = get_or c at 0;
      starts = record {
        tail = between.starts.tail;
        is = sym (take-append-drop at c) ∙ (ap (λ x. x ++ drop at c) (torn.before ∙ parts.0) ∙ (ap (λ x. front ++ x) (drop_more c at 0 within)
            ∙ (ap (λ x. front ++ get_or c at 0 ∷ x) (torn.after ∙ parts.1) ∙ sym (append_assoc front (get_or c at 0 ∷ rest) between.starts.tail))));
      };
    }

-- bytes written after a closed commit byte
pub staged_between : (front bytes file : List ℕ) → Starts ((front ++ 0 ∷ []) ++ bytes) file → Between front bytes file
staged_between front bytes file starts = record { byte = 0; starts = subst (λ x. Starts x file) (append_assoc front (0 ∷ []) bytes) starts }

pub length_closed : (front : List ℕ) (n : ℕ) → length front + 1 ≡ n → length (front ++ 0 ∷ []) ≡ n
length_closed front n long = length-append front (0 ∷ []) ∙ long
