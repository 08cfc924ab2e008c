-- What a core in memory answers, as a machine's answer.
use Rattle.std.proofs.Common.{◌≡◌, ℕ, List, [], ◌∷◌, ◌++◌, sym, ap, ◌∙◌, refl, subst, arith, append-nil}
use Rattle.svc_types.specs.Keys.{IsKey}
use Rattle.svc_types.specs.Requests.{IsCommand}
use Rattle.svc_types.specs.declared.requests.Command.{Command}
use Rattle.svc_types.specs.declared.replies.Reply.{Reply}
use Rattle.svc_types.specs.declared.replies.Refusal.{Refusal}
use Rattle.svc_core.specs.Core.{IsReplyTo}
use Rattle.svc_core.proofs.CoreLemmas.{history_more}
use Rattle.svc_world.specs.World.{Accepted, accepted}
use Rattle.svc_world.specs.Judging as judging
use Rattle.svc_world.specs.Judging.{Judgement, judged, IsHistory}
use Rattle.serv_machine.specs.History.{History, Memory, Refused, by_judgement, decided, after_decision}
use Rattle.serv_machine.specs.Verdicts.{IsReplyBy, IsUnsaid}
use Rattle.serv_machine.specs.OnDisk.{OnDisk}
use Rattle.serv_machine.proofs.OnDiskLemmas.{alone}
use Rattle.serv_disk.specs.Disks.{nothing_seen}

abbrev pub in_memory : List Accepted → History
in_memory h = record { commands = h; store = Memory }

reply_by : (h : List Accepted) (c : Command) (a : Accepted) (said : Judgement) (reply : Reply) → IsReplyTo h c said reply → IsReplyBy (in_memory h) c (by_judgement Memory h a said) reply
reply_by h c a (judging.Kept kept) reply is = is
reply_by h c a (judging.Refused why) reply is = absurd is
reply_by h c a judging.Fresh reply is = is

pub memory_reply : (h : List Accepted) (key : List ℕ) (c : Command) (reply : Reply) → IsReplyTo h c (judged h key c) reply → IsReplyBy (in_memory h) c (decided (in_memory h) key c) reply
unfolding decided
memory_reply h key c reply is = reply_by h c (accepted key c) (judged h key c) reply is

after_by : (h h' : List Accepted) (key : List ℕ) (c : Command) (said : Judgement) → h' ≡ judging.history_after h key c said
    → in_memory h' ≡ after_decision (in_memory h) (accepted key c) (by_judgement Memory h (accepted key c) said)
after_by h h' key c (judging.Kept kept) is = ap in_memory is
after_by h h' key c (judging.Refused why) is = ap in_memory is
after_by h h' key c judging.Fresh is = ap in_memory is

pub memory_after : (h h' : List Accepted) (key : List ℕ) (c : Command) → h' ≡ judging.history_after h key c (judged h key c)
    → in_memory h' ≡ after_decision (in_memory h) (accepted key c) (decided (in_memory h) key c)
unfolding decided
memory_after h h' key c is = after_by h h' key c (judged h key c) is

pub memory_refused : (h : List Accepted) (key : List ℕ) (c : Command) (why : Refusal) → judged h key c ≡ judging.Refused why → decided (in_memory h) key c ≡ Refused why
unfolding decided
memory_refused h key c why is = ap (by_judgement Memory h (accepted key c)) is

pub memory_wanted : (h : List Accepted) (key : List ℕ) (c : Command) → judged h key c ≡ judging.Fresh → IsUnsaid (decided (in_memory h) key c)
unfolding decided
memory_wanted h key c is = subst (λ j. IsUnsaid (by_judgement Memory h (accepted key c) j)) (sym is) tt

-- no disk is touched
nowhere : {D : Type 0} (d : D) (h h' list : List Accepted) → h' ≡ h ++ list → (IsHistory h → IsHistory h') → OnDisk {D = D} (λ _. nothing_seen) d d (in_memory h) (in_memory h') []
nowhere d h h' list is next = record {
  list = list;
  accepted = is;
  store = refl;
  fresh = λ history. alone h' h' refl (next history);
  left = λ c image. absurd image;
  moments = record { later = omega arith; each = λ c left. absurd left; before = λ t c le left. absurd left };
}

pub memory_same : {D : Type 0} (d : D) (h h' : List Accepted) → h' ≡ h → OnDisk {D = D} (λ _. nothing_seen) d d (in_memory h) (in_memory h') []
memory_same d h h' is = nowhere d h h' [] (is ∙ sym (append-nil h)) (λ history. subst IsHistory (sym is) history)

after_nowhere : {D : Type 0} (d : D) (h h' : List Accepted) (key : List ℕ) (c : Command) (said : Judgement) → h' ≡ judging.history_after h key c said
    → (said ≡ judging.Fresh → IsHistory h → IsHistory (h ++ accepted key c ∷ []))
    → OnDisk {D = D} (λ _. nothing_seen) d d (in_memory h) (in_memory h') []
after_nowhere d h h' key c (judging.Kept kept) is next = memory_same d h h' is
after_nowhere d h h' key c (judging.Refused why) is next = memory_same d h h' is
after_nowhere d h h' key c judging.Fresh is next = nowhere d h h' (accepted key c ∷ []) is (λ history. subst IsHistory (sym is) (next refl history))

pub memory_disk : {D : Type 0} (d : D) (h h' : List Accepted) (key : List ℕ) (c : Command) → h' ≡ judging.history_after h key c (judged h key c) → IsKey key → IsCommand c
    → OnDisk {D = D} (λ _. nothing_seen) d d (in_memory h) (in_memory h') []
memory_disk d h h' key c is k formed = after_nowhere d h h' key c (judged h key c) is (λ fresh history. history_more h key c history k formed fresh)
