-- Links that are served one after another.
use Rattle.std.proofs.Common.{◌≡◌, ℕ, ◌+◌, ◌<◌, ◌≤◌, List, [], ◌∷◌, ◌++◌, length, refl, sym, ap, subst, ◌∙◌, inl, inr, arith, append_assoc, append-nil, length-append}
use Rattle.std.specs.Prelude.{Option, Some, None, option_map}
use Rattle.std.proofs.lemmas.List.Sums.{sum_by_push}
use Rattle.svc_world.specs.World.{Accepted}
use Rattle.serv_disk.specs.Listening.{IsNext, IsBack}
use Rattle.serv_disk.specs.Stamps.{Stamp}
use Rattle.serv_machine.specs.OnDisk.{OnDisk, Upholds}
use Rattle.serv_machine.proofs.OnDiskLemmas.{disk_more}
use Rattle.serv_machine.proofs.UpheldLemmas.{upheld_later}
use Rattle.serv_links.specs.declared.doors.DoorsEnd.TheVariants as doors_end
use Rattle.serv_links.specs.declared.link_end.LinkEnd.{LinkEnd}
use Rattle.serv_links.specs.declared.link_end.LinkEnd.TheVariants.{Ended, Broken, Cut, Disk, NoMemory}
use Rattle.serv_links.specs.declared.summary.Summary.{Summary}
use Rattle.serv_machine.specs.History.{Stand}
use Rattle.serv_disk.specs.Faults.{HasRisen}
use Rattle.serv_machine.specs.Answering.{Writes}
use Rattle.serv_machine.specs.declared.faults.Stop.TheVariants.{WriteFault, OutOfMemory}
use Rattle.serv_links.specs.Outcomes.{AreInFront, AreAnswersOf, ComeFirst}
use Rattle.serv_machine.proofs.StoppedLemmas.{nothing_begun}
use Rattle.serv_links.specs.Links.{IsDiskEnd, Serves, number_in}
use Rattle.serv_links.specs.Doors.{ServedLink, AreServed, AreTaken, AreBack, HasServed, NoDisk, IsSummary, ServesDoors, as_broken, as_cut, as_memory}
use Rattle.serv_disk.specs.Disks.{View}

-- ---- links that come and go

taken_none : {C : Type 0} (coming : Option (List C)) → AreTaken coming coming []
taken_none None = refl
taken_none (Some old) = refl

back_none : {C : Type 0} (backed : Option (List C)) → AreBack backed backed []
back_none None = refl
back_none (Some old) = ap Some (sym (append-nil old))

taken_more : {C : Type 0} (c0 c1 c2 : Option (List C)) (links : List C) (x : C) → AreTaken c0 c1 links → IsNext c1 c2 (Some x) → AreTaken c0 c2 (links ++ x ∷ [])
taken_more c0 None c2 links x first next = first ∙ ap (option_map (λ rest. (links ++ x ∷ []) ++ rest)) (sym next)
taken_more c0 (Some mid) None links x first next = absurd next
taken_more c0 (Some mid) (Some new) links x first next = first ∙ ap Some (ap (λ l. links ++ l) next ∙ sym (append_assoc links (x ∷ []) new))

back_more : {C : Type 0} (b0 b1 b2 : Option (List C)) (links : List C) (y : C) → AreBack b0 b1 links → IsBack b1 b2 y → AreBack b0 b2 (links ++ y ∷ [])
back_more None b1 b2 links y first back = subst (λ b. IsBack b b2 y) first back
back_more (Some old) None b2 links y first back = cc
back_more (Some old) (Some mid) None links y first back = absurd back
back_more (Some old) (Some mid) (Some new) links y first back =
    let same : mid ≡ old ++ links = cc in
    ap Some (back ∙ ap (λ l. l ++ y ∷ []) same ∙ append_assoc old links (y ∷ []))

-- ---- one link more

served_more : {C : Type 0} (P : LinkEnd → C → C → Stand → Stand → List Accepted → Type 0) (ends : List LinkEnd) (came back : List C) (s t s' : Stand) (p q : List Accepted) (e : LinkEnd) (x y : C)
    → AreServed P ends came back s t p → P e x y t s' q → AreServed P (ends ++ e ∷ []) (came ++ x ∷ []) (back ++ y ∷ []) s s' (p ++ q)
served_more P [] [] [] s t s' p q e x y all one =
    (s', (q, ([], subst (λ z. P e x y z s' q) all.0 one, (refl, refl), ap (λ z. z ++ q) all.1 ∙ sym (append-nil q))))
served_more P [] [] (z ∷ back) s t s' p q e x y all one = absurd all
served_more P [] (z ∷ came) back s t s' p q e x y all one = absurd all
served_more P (end ∷ ends) [] back s t s' p q e x y all one = absurd all
served_more P (end ∷ ends) (z ∷ came) [] s t s' p q e x y all one = absurd all
served_more P (end ∷ ends) (z ∷ came) (w ∷ back) s t s' p q e x y (u, (now, (later, first, rest, is))) one =
    (u, (now, (later ++ q, first, served_more P ends came back u t s' later q e x y rest one, ap (λ z. z ++ q) is ∙ append_assoc now later q)))

calm_more : (ends : List LinkEnd) (e : LinkEnd) → NoDisk ends → ¬ (IsDiskEnd e) → NoDisk (ends ++ e ∷ [])
calm_more [] e calm last = (last, tt)
calm_more (end ∷ ends) e calm last = (calm.0, calm_more ends e calm.1 last)

pub counted_more : (ends : List LinkEnd) (e : LinkEnd) (s s' : Summary) → IsSummary ends s → s'.served ≡ s.served + 1 → s'.requests ≡ s.requests + number_in e → s'.broken ≡ s.broken + as_broken e
    → s'.cut ≡ s.cut + as_cut e → s'.memory ≡ s.memory + as_memory e → IsSummary (ends ++ e ∷ []) s'
counted_more ends e s s' is served requests broken cut memory = record {
  served = served ∙ (ap (λ n. n + 1) is.served ∙ sym (length-append ends (e ∷ [])));
  requests = requests ∙ (ap (λ n. n + number_in e) is.requests ∙ sym (sum_by_push number_in ends e));
  broken = broken ∙ (ap (λ n. n + as_broken e) is.broken ∙ sym (sum_by_push as_broken ends e));
  cut = cut ∙ (ap (λ n. n + as_cut e) is.cut ∙ sym (sum_by_push as_cut ends e));
  memory = memory ∙ (ap (λ n. n + as_memory e) is.memory ∙ sym (sum_by_push as_memory ends e));
}

pub at_most_one : (e : LinkEnd) → (as_broken e ≤ 1) × (as_cut e ≤ 1) × (as_memory e ≤ 1)
at_most_one (Ended n) = (omega arith, omega arith, omega arith)
at_most_one (Broken n) = (omega arith, omega arith, omega arith)
at_most_one (Cut n) = (omega arith, omega arith, omega arith)
at_most_one (Disk n) = (omega arith, omega arith, omega arith)
at_most_one (NoMemory n) = (omega arith, omega arith, omega arith)

pub calm_end : (e : LinkEnd) → ((n : ℕ) → e ≡ Disk n → ⊥) → ¬ (IsDiskEnd e)
calm_end (Ended n) other failed = failed
calm_end (Broken n) other failed = failed
calm_end (Cut n) other failed = failed
calm_end (Disk n) other failed = other n refl
calm_end (NoMemory n) other failed = failed

pub disk_end : (e : LinkEnd) (n : ℕ) → e ≡ Disk n → IsDiskEnd e
disk_end e n is = subst IsDiskEnd (sym is) tt

-- where the disk did not fail, no command was being appended
nothing_pending : (e : LinkEnd) (reads writes : Type 0) (U : (ℕ → List Accepted → Type 0) → Type 0) (left left' : Option (List ℕ)) (s s' : Stand) (pending : List Accepted) (added : List ℕ) → ¬ (IsDiskEnd e)
    → Serves e reads writes U left left' s s' pending added → pending ≡ []
nothing_pending (Ended n) reads writes U left left' s s' pending added calm is = is.says.0
nothing_pending (Cut n) reads writes U left left' s s' pending added calm is = is.says.0
nothing_pending (Disk n) reads writes U left left' s s' pending added calm is = absurd (calm tt)
nothing_pending (Broken n) reads writes U left left' s s' pending added calm is = elim is.says [ inl read ↦ read.1 | inr write ↦ (let e = write.1.ended in nothing_begun WriteFault (ComeFirst n write.1.asks) 0 s s' pending e.before (λ is. cc) e.stopped) ]
nothing_pending (NoMemory n) reads writes U left left' s s' pending added calm is =
    let e = is.says.ended in
    nothing_begun OutOfMemory (ComeFirst n is.says.asks) 0 s s' pending e.before (λ is. cc) e.stopped

-- ---- links so far

-- what holds of a link holds of it later
serves_later : (U V : (ℕ → List Accepted → Type 0) → Type 0) (e : LinkEnd) (reads writes : Type 0) (left left' : Option (List ℕ)) (s s' : Stand) (pending : List Accepted) (added : List ℕ)
    → ((Covers : ℕ → List Accepted → Type 0) → U Covers → V Covers) → Serves e reads writes U left left' s s' pending added → Serves e reads writes V left left' s s' pending added
serves_later U V e reads writes left left' s s' pending added then is =
    record { taken = is.taken; took = is.took; within = is.within; read_on = is.read_on; says = is.says; acknowledged = then (AreAnswersOf (AreInFront is.taken) s.history) is.acknowledged }

module _ {D C : Type 0} (view : D → View) (left held : C → Option (List ℕ)) (log : C → Option (List Stamp)) (reads writes : C → ℕ) where
  -- a link that was served, where the disk is this one and the books stand so
  abbrev P : D → Stand → LinkEnd → C → C → Stand → Stand → List Accepted → Type 0
  P d exit = ServedLink left held log reads writes (view d) exit

  -- the disk's calls go on
  module _ (mid new : D) (t u : Stand) (pending : List Accepted) (disk : OnDisk view mid new t.history u.history pending) where
    link_later : (e : LinkEnd) (x y : C) (s s' : Stand) (p : List Accepted) → P mid t e x y s s' p → P new u e x y s s' p
    link_later e x y s s' p is = record {
      added = is.added;
      appends = is.appends;
      serves = serves_later _ _ e _ _ (left x) (left y) s s' p is.added
          (λ Covers up. upheld_later view mid new t.history u.history pending disk Covers (held x) (log x) (log y) up) is.serves;
    }

    links_later : (ends : List LinkEnd) (came back : List C) (s s' : Stand) (p : List Accepted) → AreServed (P mid t) ends came back s s' p → AreServed (P new u) ends came back s s' p
    links_later [] [] [] s s' p all = all
    links_later [] [] (y ∷ back) s s' p all = absurd all
    links_later [] (x ∷ came) back s s' p all = absurd all
    links_later (e ∷ ends) [] back s s' p all = absurd all
    links_later (e ∷ ends) (x ∷ came) [] s s' p all = absurd all
    links_later (e ∷ ends) (x ∷ came) (y ∷ back) s s' p (v, (now, (later, first, rest, is))) =
        (v, (now, (later, link_later e x y s v now first, links_later ends came back v s' later rest, is)))

  -- so many links are served, and at none the disk failed
  pub record Along (old new : D) (summary : Summary) (n : ℕ) (coming coming' backed backed' : Option (List C)) (s s' : Stand) : Type 0 where
    pub ends : List LinkEnd
    pub has : HasServed (P new s') coming coming' backed backed' ends s s' []
    pub calm : NoDisk ends
    pub counted : IsSummary ends summary
    pub count : length ends ≡ n
    pub disk : OnDisk view old new s.history s'.history []

  pub along_none : (d : D) (summary : Summary) (coming backed : Option (List C)) (s : Stand) → IsSummary [] summary → OnDisk view d d s.history s.history []
      → Along d d summary 0 coming coming backed backed s s
  along_none d summary coming backed s none disk = record {
    ends = [];
    has = record { came = []; back = []; taken = taken_none coming; handed = back_none backed; served = (refl, refl) };
    calm = tt;
    counted = none;
    count = refl;
    disk = disk;
  }

  module _ (old mid : D) (summary : Summary) (n : ℕ) (c0 c1 b0 b1 : Option (List C)) (s t : Stand) (along : Along old mid summary n c0 c1 b0 b1 s t) where
    has_more : (new : D) (c2 c3 b2 b3 : Option (List C)) (e : LinkEnd) (x y : C) (s' : Stand) (pending : List Accepted) → OnDisk view mid new t.history s'.history pending
        → IsNext c1 c2 (Some x) → c3 ≡ c2 → b2 ≡ b1 → IsBack b2 b3 y → P new s' e x y t s' pending → HasServed (P new s') c0 c3 b0 b3 (along.ends ++ e ∷ []) s s' pending
    has_more new c2 c3 b2 b3 e x y s' pending disk next stays kept back one = record {
      came = along.has.came ++ x ∷ [];
      back = along.has.back ++ y ∷ [];
      taken = subst (λ c. AreTaken c0 c (along.has.came ++ x ∷ [])) (sym stays) (taken_more c0 c1 c2 along.has.came x along.has.taken next);
      handed = back_more b0 b1 b3 along.has.back y along.has.handed (subst (λ b. IsBack b b3 y) kept back);
      served = served_more (P new s') along.ends along.has.came along.has.back s t s' [] pending e x y
          (links_later mid new t s' pending disk along.ends along.has.came along.has.back s t [] along.has.served) one;
    }

    module _ (new : D) (summary' : Summary) (c2 c3 b2 b3 : Option (List C)) (e : LinkEnd) (x y : C) (s' : Stand)
        (next : IsNext c1 c2 (Some x)) (stays : c3 ≡ c2) (kept : b2 ≡ b1) (back : IsBack b2 b3 y)
        (link : Writes view mid new (Serves e (HasRisen (reads x) (reads y)) (HasRisen (writes x) (writes y))
        (λ covers. Upholds covers (view new) s'.history (held x) (log x) (log y)) (left x) (left y) t s') t.history s'.history (held x) (held y))
        (counted : IsSummary (along.ends ++ e ∷ []) summary') where
      disk_on : OnDisk view old new s.history s'.history link.pending
      disk_on = disk_more view old mid new s.history t.history s'.history link.pending along.disk link.disk

      has_on : HasServed (P new s') c0 c3 b0 b3 (along.ends ++ e ∷ []) s s' link.pending
      has_on = has_more new c2 c3 b2 b3 e x y s' link.pending link.disk next stays kept back (record { added = link.written; appends = link.wrote; serves = link.says_so })

      long : length (along.ends ++ e ∷ []) ≡ n + 1
      long = let joined = length-append along.ends (e ∷ []) in let is = along.count in omega arith

      pub along_more : ¬ (IsDiskEnd e) → Along old new summary' (n + 1) c0 c3 b0 b3 s s'
      along_more calm =
          let none : link.pending ≡ [] = nothing_pending e _ _ _ _ _ t s' link.pending link.written calm link.says_so in
          record {
            ends = along.ends ++ e ∷ [];
            has = subst (λ p. HasServed (P new s') c0 c3 b0 b3 (along.ends ++ e ∷ []) s s' p) none has_on;
            calm = calm_more along.ends e along.calm calm;
            counted = counted;
            count = long;
            disk = subst (λ p. OnDisk view old new s.history s'.history p) none disk_on;
          }

      pub along_stops : (most : ℕ) → n < most → IsDiskEnd e → ServesDoors view old new (P new) doors_end.DiskFault summary' most c0 c3 b0 b3 s s'
      along_stops most below failed = record {
        ends = along.ends ++ e ∷ [];
        pending = link.pending;
        has = has_on;
        ended = ((along.ends, (e, refl, along.calm, failed)), (let is = long in omega arith));
        counted = counted;
        disk = disk_on;
      }
