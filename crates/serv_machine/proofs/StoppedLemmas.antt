-- Where nothing further is answered: it holds of more that is said, and after what was answered before; and the commands behind what
-- is written.
use Rattle.std.proofs.Common.{◌≡◌, ℕ, ◌+◌, ◌≤◌, List, [], ◌∷◌, ◌++◌, length, refl, sym, ap, subst, ◌∙◌, inl, inr, arith, append-nil, append_assoc, length-append}
use Rattle.std.specs.Prelude.{Option, Some, None, option_map, unwrap_or}
use Rattle.svc_types.specs.declared.requests.Request.{Request}
use Rattle.svc_types.specs.declared.requests.Request.TheVariants as request
use Rattle.svc_world.specs.World.{Accepted, accepted}
use Rattle.serv_machine.specs.declared.faults.Stop.{Stop}
use Rattle.serv_machine.specs.declared.faults.Stop.TheVariants.{WriteFault, DiskFault, OutOfMemory}
use Rattle.serv_machine.specs.Answering.{Answers, IsCutIn, NextHasNone, AnsweredBut, IsStopped, AreReplies}
use Rattle.serv_machine.specs.History.{History, Stand, Decision, Kept, Refused, Full, Fresh, after_decision, decided}
use Rattle.serv_machine.specs.Sayings.{Saying, Say, SaidFirst, AreFirst, history_after_all, replies_to, MovesAll}
use Rattle.serv_machine.specs.Verdicts.{history_after_request}
use Rattle.serv_machine.proofs.AnsweringLemmas.{first_after, first_with, first_done}
use Rattle.serv_machine.proofs.SayingLemmas.{history_after_all-append, replies_to-append, moves_all-append, said_after}

-- ---- of more that is said it holds too

module _ (First Wider : List Saying → List Saying → Type 0) (waiting : ℕ) (s s' : Stand) (pending : List Accepted) (written : List ℕ) (then : (done : List Saying) (next : Saying) → First done (next ∷ []) → Wider done (next ∷ [])) where
  but_at : (is : AnsweredBut DiskFault First waiting s s' pending written) → Wider is.done is.ahead → AnsweredBut DiskFault Wider waiting s s' pending written
  but_at is first = record { done = is.done; ahead = is.ahead; first = first; mid = is.mid; moved = is.moved; next = is.next; rest = is.rest; text = is.text; few = is.few }

  -- where memory was there, something comes next
  pub stopped_at : (why : Stop) → (why ≡ OutOfMemory → ⊥) → IsStopped why First waiting s s' pending written → IsStopped why Wider waiting s s' pending written
  stopped_at WriteFault memory is =
      let cut = is.1 in
      (is.0, record { done = cut.done; last = cut.last; first = then cut.done cut.last cut.first; moved = cut.moved; cut = cut.cut; late = cut.late })
  stopped_at DiskFault memory is = but_at is (by_ahead is.ahead is.first is.next)
    where
      by_ahead : (ahead : List Saying) → First is.done ahead → NextHasNone DiskFault ahead is.mid s' pending → Wider is.done ahead
      by_ahead [] first next = absurd (memory next.0)
      by_ahead (one ∷ []) first next = then is.done one first
      by_ahead (one ∷ (other ∷ more)) first next = absurd next
  stopped_at OutOfMemory memory is = absurd (memory refl)

-- ---- after what was answered before

module _ (Whole : List Saying → Type 0) (First Wider : List Saying → List Saying → Type 0) (waiting : ℕ) (s t s' : Stand) (pending : List Accepted) (w1 w2 : List ℕ) (before : Answers Whole s t w1)
    (then : (done ahead : List Saying) → First done ahead → Wider (before.said ++ done) ahead) where
  replies_both : (more : List Saying) → replies_to s.history (before.said ++ more) ≡ w1 ++ replies_to t.history more
  replies_both more =
      replies_to-append s.history before.said more ∙ (ap (λ x. x ++ replies_to (history_after_all s.history before.said) more) (sym before.text) ∙ ap (λ h. w1 ++ replies_to h more) (sym before.moved.0))

  cut_after : IsCutIn First waiting t s' w2 → IsCutIn Wider waiting s s' (w1 ++ w2)
  cut_after is =
      let all : (before.said ++ is.done) ++ is.last ∷ [] ≡ before.said ++ (is.done ++ is.last ∷ []) = append_assoc before.said is.done (is.last ∷ []) in
      let late = is.late in
      let texts = ap (λ (l : List ℕ). length l) (replies_both is.done) in
      record {
        done = before.said ++ is.done;
        last = is.last;
        first = then is.done (is.last ∷ []) is.first;
        moved = subst (λ l. MovesAll l s s') (sym all) (moves_all-append before.said (is.done ++ is.last ∷ []) s t s' before.moved is.moved);
        cut = record {
          rest = is.cut.rest;
          some = is.cut.some;
          joined = ap (replies_to s.history) all ∙ (replies_both (is.done ++ is.last ∷ []) ∙ (ap (λ x. w1 ++ x) is.cut.joined ∙ sym (append_assoc w1 w2 is.cut.rest)));
        };
        late = omega (arith, late, texts, length-append w1 (replies_to t.history is.done), length-append w1 w2);
      }

  but_after : (why : Stop) → AnsweredBut why First waiting t s' pending w2 → AnsweredBut why Wider waiting s s' pending (w1 ++ w2)
  but_after why is = record {
    done = before.said ++ is.done;
    ahead = is.ahead;
    first = then is.done is.ahead is.first;
    mid = is.mid;
    moved = moves_all-append before.said is.done s t is.mid before.moved is.moved;
    next = is.next;
    rest = is.rest;
    text = replies_both is.done ∙ (ap (λ x. w1 ++ x) is.text ∙ sym (append_assoc w1 w2 is.rest));
    few = is.few;
  }

  pub stopped_after : (why : Stop) → IsStopped why First waiting t s' pending w2 → IsStopped why Wider waiting s s' pending (w1 ++ w2)
  stopped_after WriteFault is = (is.0, cut_after is.1)
  stopped_after DiskFault is = but_after DiskFault is
  stopped_after OutOfMemory is = but_after OutOfMemory is

-- ---- what is answered of more

-- so many bytes are the replies to what comes first, after what was answered before
pub replies_then : {A : Type 0} (Says : A → Saying → Type 0) (xs ys : List A) (s t : Stand) (wrote : List ℕ) (bytes : ℕ) (commands : List Accepted) → Answers (Say Says xs) s t wrote → AreReplies (SaidFirst Says ys) t.history bytes commands
    → AreReplies (SaidFirst Says (xs ++ ys)) s.history (length wrote + bytes) commands
replies_then Says xs ys s t wrote bytes commands a is =
    let texts : replies_to s.history (a.said ++ is.said) ≡ wrote ++ replies_to t.history is.said =
    replies_to-append s.history a.said is.said ∙ (ap (λ x. x ++ replies_to (history_after_all s.history a.said) is.said) (sym a.text) ∙ ap (λ h. wrote ++ replies_to h is.said) (sym a.moved.0)) in
    record {
      said = a.said ++ is.said;
      first = first_after (SaidFirst Says ys) (SaidFirst Says (xs ++ ys)) a.said (λ saids. said_after Says xs ys a.said saids a.whole) is.said [] is.first;
      bytes_are = ap (λ k. length wrote + k) is.bytes_are ∙ sym (ap (λ (l : List ℕ). length l) texts ∙ length-append wrote (replies_to t.history is.said));
      commands_are = is.commands_are ∙ (ap (λ h. (history_after_all h is.said).commands) a.moved.0 ∙ ap (λ (h : History). h.commands) (sym (history_after_all-append s.history a.said is.said)));
    }

-- ---- the command that was being appended

-- there is none where the disk did not fail
pub nothing_begun : (why : Stop) (First : List Saying → List Saying → Type 0) (waiting : ℕ) (s s' : Stand) (pending : List Accepted) (written : List ℕ) → (why ≡ DiskFault → ⊥)
    → IsStopped why First waiting s s' pending written → pending ≡ []
nothing_begun WriteFault First waiting s s' pending written other is = is.0
nothing_begun DiskFault First waiting s s' pending written other is = absurd (other refl)
nothing_begun OutOfMemory First waiting s s' pending written other is = by_ahead is.ahead is.next
  where
    by_ahead : (ahead : List Saying) → NextHasNone OutOfMemory ahead is.mid s' pending → pending ≡ []
    by_ahead [] next = next.1
    by_ahead (one ∷ []) next = next.0
    by_ahead (one ∷ (other ∷ more)) next = absurd next

-- ---- the commands behind what is written

-- what is accepted, and what was accepted after it
abbrev pub Grown : History → History → Type 0
Grown h h' = (list : List Accepted) × (h'.commands ≡ h.commands ++ list)

grown_none : (h h' : History) → h' ≡ h → Grown h h'
grown_none h h' same = ([], ap (λ (x : History). x.commands) same ∙ sym (append-nil h.commands))

grown_decided : (h : History) (a : Accepted) (d : Decision) → Grown h (after_decision h a d)
grown_decided h a (Kept reply) = grown_none h h refl
grown_decided h a (Refused why) = grown_none h h refl
grown_decided h a (Full bytes) = grown_none h h refl
grown_decided h a Fresh = (a ∷ [], refl)

grown_asked : (h : History) (asks : Option Request) → Grown h (unwrap_or (option_map (history_after_request h) asks) h)
unfolding history_after_request
grown_asked h None = grown_none h h refl
grown_asked h (Some (request.Do key c)) = grown_decided h (accepted key c) (decided h key c)
grown_asked h (Some (request.Ask q)) = grown_none h h refl

-- what has no reply takes nothing back
grown_next : (why : Stop) (ahead : List Saying) (t s' : Stand) (pending : List Accepted) → NextHasNone why ahead t s' pending → Grown t.history s'.history
grown_next why [] t s' pending next = grown_none t.history s'.history next.2.0
grown_next WriteFault (one ∷ []) t s' pending next = absurd next
grown_next DiskFault (one ∷ []) t s' pending next = grown_none t.history s'.history next.same
grown_next OutOfMemory (one ∷ []) t s' pending next =
    elim next.1.near [ inl none ↦ grown_none t.history s'.history none | inr after ↦ (let all = grown_asked t.history one.request in (all.0, ap (λ (h : History). h.commands) after ∙ all.1)) ]
grown_next why (one ∷ (other ∷ more)) t s' pending next = absurd next

-- what is written is within the replies to what comes first, after which these commands are accepted, and they are still
pub record IsCovered (Whole : List Saying → Type 0) (h now : History) (written : List ℕ) : Type 0 where
  pub bytes : ℕ
  pub commands : List Accepted
  pub replies : AreReplies Whole h bytes commands
  pub enough : length written ≤ bytes
  pub grown : (list : List Accepted) × (now.commands ≡ commands ++ list)

module _ (Whole : List Saying → Type 0) (First : List Saying → List Saying → Type 0) (then : (done ahead : List Saying) → First done ahead → AreFirst Whole done ahead) (waiting : ℕ) (s s' : Stand) (pending : List Accepted) (written : List ℕ) where
  cut_covered : IsCutIn First waiting s s' written → IsCovered Whole s.history s'.history written
  cut_covered is =
      let said : List Saying = is.done ++ is.last ∷ [] in
      let all = ap (λ (l : List ℕ). length l) is.cut.joined in
      record {
        bytes = length (replies_to s.history said);
        commands = s'.history.commands;
        replies = record { said = said; first = first_with Whole is.done (is.last ∷ []) (then is.done (is.last ∷ []) is.first); bytes_are = refl; commands_are = ap (λ (h : History). h.commands) is.moved.0 };
        enough = omega (arith, all, length-append written is.cut.rest);
        grown = grown_none s'.history s'.history refl;
      }

  but_covered : (why : Stop) → AnsweredBut why First waiting s s' pending written → IsCovered Whole s.history s'.history written
  but_covered why is =
      let all = ap (λ (l : List ℕ). length l) is.text in
      record {
        bytes = length (replies_to s.history is.done);
        commands = is.mid.history.commands;
        replies = record { said = is.done; first = first_done Whole is.done is.ahead (then is.done is.ahead is.first); bytes_are = refl; commands_are = ap (λ (h : History). h.commands) is.moved.0 };
        enough = omega (arith, all, length-append written is.rest);
        grown = grown_next why is.ahead is.mid s' pending is.next;
      }

  pub stopped_covered : (why : Stop) → IsStopped why First waiting s s' pending written → IsCovered Whole s.history s'.history written
  stopped_covered WriteFault is = cut_covered is.1
  stopped_covered DiskFault is = but_covered DiskFault is
  stopped_covered OutOfMemory is = but_covered OutOfMemory is
