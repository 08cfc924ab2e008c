-- One call more of those that a disk in memory keeps.
use Rattle.std.proofs.Common.{◌≡◌, ℕ, ◌+◌, ◌≤◌, List, [], ◌∷◌, ◌++◌, length, take, drop, sym, ap, subst, ◌∙◌, refl, arith, length-drop, length-append}
use Rattle.std.proofs.lemmas.List.{append-nil, take-append-le, drop-append-le, take_all, nil_from_length}
use Rattle.serv_images.specs.DiskCalls.{DiskCall, Wrote, Shortened, Synced, now_of, synced_of, written, AreWithin}
use Rattle.serv_images.specs.Kept.{bytes_of, call_of, calls_of, bytes_in, IsKept}
use Rattle.serv_images.specs.declared.kept.Step.{Step}
use Rattle.serv_images.specs.declared.kept.Step.TheVariants.{Write, Cut, Sync}

calls_push : (steps : List Step) (pool : List ℕ) (older : List DiskCall) (step : Step) (bytes : List ℕ) → bytes_in steps ≡ length pool → bytes_of step ≡ length bytes
    → calls_of (steps ++ step ∷ []) (pool ++ bytes) older ≡ call_of step bytes ∷ calls_of steps pool older
calls_push [] pool older step bytes none own =
    let empty : pool ≡ [] = nil_from_length pool (sym none) in
    ap (λ p. call_of step (take (bytes_of step) (p ++ bytes)) ∷ older) empty ∙ ap (λ p. call_of step p ∷ older) (take_all (bytes_of step) bytes (omega arith))
calls_push (first ∷ later) pool older step bytes all own =
    let n : ℕ = bytes_of first in
    let within : n ≤ length pool = omega arith in
    let rest : bytes_in later ≡ length (drop n pool) = omega (arith, length-drop n pool) in
    ap (λ p. calls_of (later ++ step ∷ []) p (call_of first (take n (pool ++ bytes)) ∷ older)) (drop-append-le n pool bytes within)
    ∙ ap (λ t. calls_of (later ++ step ∷ []) (drop n pool ++ bytes) (call_of first t ∷ older)) (take-append-le n pool bytes within)
    ∙ calls_push later (drop n pool) (call_of first (take n pool) ∷ older) step bytes rest own

-- there are as many calls as steps
calls_count : (steps : List Step) (pool : List ℕ) (older : List DiskCall) → length (calls_of steps pool older) ≡ length steps + length older
calls_count [] pool older = omega arith
calls_count (step ∷ later) pool older =
    let rest = calls_count later (drop (bytes_of step) pool) (call_of step (take (bytes_of step) pool) ∷ older) in
    omega (arith, rest)

pub calls_long : (steps : List Step) (pool : List ℕ) → length steps ≡ length (calls_of steps pool [])
calls_long steps pool = let all = calls_count steps pool [] in omega (arith, all)

bytes_push : (steps : List Step) (step : Step) → bytes_in (steps ++ step ∷ []) ≡ bytes_in steps + bytes_of step
bytes_push [] step = omega arith
bytes_push (first ∷ later) step = let rest = bytes_push later step in omega arith

-- the calls with a write more
pub made_write : (steps steps' : List Step) (pool pool' : List ℕ) (at n : ℕ) (bytes : List ℕ) → bytes_in steps ≡ length pool → n ≡ length bytes
    → steps' ≡ steps ++ Write at n ∷ [] → pool' ≡ pool ++ bytes → calls_of steps' pool' [] ≡ Wrote at bytes ∷ calls_of steps pool []
made_write steps steps' pool pool' at n bytes pooled long pushed added =
    ap (λ s. calls_of s pool' []) pushed ∙ ap (λ p. calls_of (steps ++ Write at n ∷ []) p []) added
    ∙ calls_push steps pool [] (Write at n) bytes pooled long

pub made_cut : (steps steps' : List Step) (pool : List ℕ) (n : ℕ) → bytes_in steps ≡ length pool → steps' ≡ steps ++ Cut n ∷ [] → calls_of steps' pool [] ≡ Shortened n ∷ calls_of steps pool []
made_cut steps steps' pool n pooled pushed =
    ap (λ s. calls_of s pool []) pushed ∙ ap (λ p. calls_of (steps ++ Cut n ∷ []) p []) (sym (append-nil pool)) ∙ calls_push steps pool [] (Cut n) [] pooled refl

pub made_sync : (steps steps' : List Step) (pool : List ℕ) → bytes_in steps ≡ length pool → steps' ≡ steps ++ Sync ∷ [] → calls_of steps' pool [] ≡ Synced ∷ calls_of steps pool []
made_sync steps steps' pool pooled pushed =
    ap (λ s. calls_of s pool []) pushed ∙ ap (λ p. calls_of (steps ++ Sync ∷ []) p []) (sym (append-nil pool)) ∙ calls_push steps pool [] Sync [] pooled refl

-- what is kept, with a write more
pub kept_write : (first synced content content' pool pool' : List ℕ) (steps steps' : List Step) (at n : ℕ) (bytes : List ℕ)
    → IsKept first synced content pool steps → at ≤ length content → n ≡ length bytes
    → steps' ≡ steps ++ Write at n ∷ [] → pool' ≡ pool ++ bytes → content' ≡ written at bytes content → IsKept first synced content' pool' steps'
kept_write first synced content content' pool pool' steps steps' at n bytes kept within long pushed added laid =
    let calls : List DiskCall = calls_of steps pool [] in
    let more : calls_of steps' pool' [] ≡ Wrote at bytes ∷ calls = made_write steps steps' pool pool' at n bytes kept.pooled long pushed added in
    record {
      content_is = laid ∙ ap (written at bytes) kept.content_is ∙ sym (ap (now_of first) more);
      synced_is = kept.synced_is ∙ sym (ap (synced_of first) more);
      within = subst (AreWithin first) (sym more) (subst (λ (s : List ℕ). at ≤ length s) kept.content_is within, kept.within);
      pooled = ap bytes_in pushed ∙ bytes_push steps (Write at n) ∙ omega (arith, kept.pooled, long, ap length added, length-append pool bytes);
    }

pub kept_cut : (first synced content content' pool : List ℕ) (steps steps' : List Step) (n : ℕ)
    → IsKept first synced content pool steps → steps' ≡ steps ++ Cut n ∷ [] → content' ≡ take n content → IsKept first synced content' pool steps'
kept_cut first synced content content' pool steps steps' n kept pushed cut =
    let more : calls_of steps' pool [] ≡ Shortened n ∷ calls_of steps pool [] = made_cut steps steps' pool n kept.pooled pushed in
    record {
      content_is = cut ∙ ap (take n) kept.content_is ∙ sym (ap (now_of first) more);
      synced_is = kept.synced_is ∙ sym (ap (synced_of first) more);
      within = subst (AreWithin first) (sym more) kept.within;
      pooled = ap bytes_in pushed ∙ bytes_push steps (Cut n) ∙ omega (arith, kept.pooled);
    }

pub kept_sync : (first synced synced' content pool : List ℕ) (steps steps' : List Step)
    → IsKept first synced content pool steps → steps' ≡ steps ++ Sync ∷ [] → synced' ≡ content → IsKept first synced' content pool steps'
kept_sync first synced synced' content pool steps steps' kept pushed same =
    let more : calls_of steps' pool [] ≡ Synced ∷ calls_of steps pool [] = made_sync steps steps' pool kept.pooled pushed in
    record {
      content_is = kept.content_is ∙ sym (ap (now_of first) more);
      synced_is = same ∙ kept.content_is ∙ sym (ap (synced_of first) more);
      within = subst (AreWithin first) (sym more) kept.within;
      pooled = ap bytes_in pushed ∙ bytes_push steps Sync ∙ omega (arith, kept.pooled);
    }
