-- Runs of calls over a disk, one after the other.
use Rattle.std.proofs.Common.{◌≡◌, ℕ, List, [], ◌∷◌, ◌++◌, refl, sym, ap, subst, ◌∙◌, inl, inr, append_assoc, append-nil}
use Rattle.svc_world.specs.World.{Accepted}
use Rattle.svc_world.specs.Judging.{IsHistory}
use Rattle.serv_disk.specs.Disks.{Each, LeavesOnly, View}
use Rattle.serv_disk.proofs.Moments.{started, weaker, joined}
use Rattle.serv_engine.proofs.HistoryLines.{history_front}
use Rattle.serv_machine.specs.History.{Store, History, in_store, with_command, with_commands}
use Rattle.serv_machine.specs.OnDisk.{HasHistory, IsGoodWith, IsAlong, IsTorn, OnDisk}

-- ---- a history and commands behind it

pub none_more : (h : History) → with_commands h [] ≡ h
none_more h = ap (in_store h.store) (append-nil h.commands)

one_and_more : (h : History) (a : Accepted) (list : List Accepted) → with_commands (with_command h a) list ≡ with_commands h (a ∷ list)
one_and_more h a list = ap (in_store h.store) (append_assoc h.commands (a ∷ []) list)

pub history_is : (h h' : History) (list : List Accepted) → h'.commands ≡ h.commands ++ list → h'.store ≡ h.store → h' ≡ with_commands h list
history_is h h' list accepted store = ap (in_store h'.store) accepted ∙ ap (λ (s : Store). in_store s (h.commands ++ list)) store

-- ---- what a content has

-- what has a history is good with a command more
pub good_for : (h : History) (a : Accepted) (file : List ℕ) → HasHistory h file → IsGoodWith h a file
good_for h a file is = record { good = record { form = is.whole.form; is_form = is.whole.is_form; good = inl is.whole.whole }; form = is.form }

pub along_here : (h : History) (list : List Accepted) (file : List ℕ) → HasHistory h file → IsAlong h list file
along_here h [] file whole = whole
along_here h (a ∷ list) file whole = inl (good_for h a file whole)

-- along some commands is along more of them
pub along_more : (h : History) (list more : List Accepted) (file : List ℕ) → IsAlong h list file → IsAlong h (list ++ more) file
along_more h [] more file along = along_here h more file along
along_more h (a ∷ list) more file (inl good) = inl good
along_more h (a ∷ list) more file (inr along) = inr (along_more (with_command h a) list more file along)

-- after some commands along further ones is along all of them
pub along_after : (h : History) (list more : List Accepted) (file : List ℕ) → IsAlong (with_commands h list) more file → IsAlong h (list ++ more) file
along_after h [] more file along = subst (λ x. IsAlong x more file) (none_more h) along
along_after h (a ∷ list) more file along = inr (along_after (with_command h a) list more file (subst (λ x. IsAlong x more file) (sym (one_and_more h a list)) along))

-- with nothing behind it a history is one
pub alone : (h h' : List Accepted) → h' ≡ h → IsHistory h → IsHistory h' × IsHistory (h' ++ [])
alone h h' same is = (subst IsHistory (sym same) is, subst IsHistory (sym (append-nil h' ∙ same)) is)

-- the front of a history is one
pub history_before : (h list : List Accepted) → IsHistory (h ++ list) → IsHistory h
history_before h [] is = subst IsHistory (append-nil h) is
history_before h (a ∷ list) is = history_front h a (history_before (h ++ a ∷ []) list (subst IsHistory (sym (append_assoc h (a ∷ []) list)) is))

-- ---- runs

module _ {D : Type 0} (view : D → View) where
  -- no call of the disk
  pub disk_none : (d : D) (h h' : History) → h' ≡ h → Each (view d).images (HasHistory h) → ((c : List ℕ) → (view d).since (view d).moment c → (view d).images c)
      → OnDisk view d d h h' []
  disk_none d h h' same each now = record {
    list = [];
    accepted = ap (λ (x : History). x.commands) same ∙ sym (append-nil h.commands);
    store = ap (λ (x : History). x.store) same;
    fresh = alone h.commands h'.commands (ap (λ (x : History). x.commands) same);
    left = subst (λ x. Each (view d).images (HasHistory x)) (sym same) each;
    moments = started view d (HasHistory h) (λ c image. each c (now c image));
  }

  pub disk_same : (old new : D) (h h' : History) → new ≡ old → h' ≡ h → Each (view old).images (HasHistory h) → ((c : List ℕ) → (view old).since (view old).moment c → (view old).images c)
      → OnDisk view old new h h' []
  disk_same old new h h' same is each now = subst (λ d. OnDisk view old d h h' []) (sym same) (disk_none old h h' is each now)

  -- a run, and another one after it
  pub disk_more : (old mid new : D) (h h1 h2 : History) (pending : List Accepted) → OnDisk view old mid h h1 [] → OnDisk view mid new h1 h2 pending
      → OnDisk view old new h h2 pending
  disk_more old mid new h h1 h2 pending first second =
      let all : List Accepted = first.list ++ second.list in
      let grouped : all ++ pending ≡ first.list ++ (second.list ++ pending) = append_assoc first.list second.list pending in
      record {
        list = all;
        accepted = second.accepted ∙ (ap (λ x. x ++ second.list) first.accepted ∙ append_assoc h.commands first.list second.list);
        store = second.store ∙ first.store;
        fresh = λ is. second.fresh (first.fresh is).0;
        left = second.left;
        moments = joined view old mid new (IsAlong h (all ++ pending))
            (weaker view old mid (IsAlong h (first.list ++ [])) (IsAlong h (all ++ pending)) first.moments
            (λ c along. subst (λ x. IsAlong h x c) (sym grouped) (along_more h first.list (second.list ++ pending) c (subst (λ x. IsAlong h x c) (append-nil first.list) along))))
            (weaker view mid new (IsAlong h1 (second.list ++ pending)) (IsAlong h (all ++ pending)) second.moments
            (λ c along. subst (λ x. IsAlong h x c) (sym grouped)
            (along_after h first.list (second.list ++ pending) c (subst (λ x. IsAlong x (second.list ++ pending) c) (history_is h h1 first.list first.accepted first.store) along))));
      }

  -- a command was being appended
  pub disk_stopped : (old new : D) (h h' : History) (a : Accepted) → h' ≡ h → (IsHistory h.commands → IsHistory (h.commands ++ a ∷ [])) → Each (view new).images (IsGoodWith h a) → LeavesOnly view old new (IsGoodWith h a)
      → OnDisk view old new h h' (a ∷ [])
  disk_stopped old new h h' a same fresh each run = record {
    list = [];
    accepted = ap (λ (x : History). x.commands) same ∙ sym (append-nil h.commands);
    store = ap (λ (x : History). x.store) same;
    fresh = λ is. (subst (λ (x : History). IsHistory x.commands) (sym same) is, subst (λ (x : History). IsHistory (x.commands ++ a ∷ [])) (sym same) (fresh is));
    left = subst (λ x. Each (view new).images (IsGoodWith x a)) (sym same) each;
    moments = weaker view old new (IsGoodWith h a) (IsAlong h (a ∷ [])) run (λ c good. inl good);
  }

  -- commands that were begun are kept now
  pub disk_kept : (old new : D) (h h' : History) (list : List Accepted) → h'.commands ≡ h.commands ++ list → h'.store ≡ h.store → IsHistory h'.commands → Each (view new).images (HasHistory h') → LeavesOnly view old new (IsAlong h list)
      → OnDisk view old new h h' []
  disk_kept old new h h' list is store history each run = record {
    list = list;
    accepted = is;
    store = store;
    fresh = λ _. alone h'.commands h'.commands refl history;
    left = each;
    moments = weaker view old new (IsAlong h list) (IsAlong h (list ++ [])) run (λ c along. subst (λ x. IsAlong h x c) (sym (append-nil list)) along);
  }

  -- the disk failed: the next command after those that are kept was perhaps being appended
  pub disk_torn : (old new : D) (h all : History) (rest : List Accepted) (next : Accepted) → all.commands ≡ h.commands ++ next ∷ rest → IsHistory (h.commands ++ next ∷ []) → Each (view new).images (IsGoodWith h next) → LeavesOnly view old new (IsGoodWith h next)
      → IsTorn view old new h all
  disk_torn old new h all rest next is history each run = record {
    next = next;
    rest = rest;
    all_are = is;
    disk = disk_stopped old new h h next refl (λ _. history) each run;
  }
