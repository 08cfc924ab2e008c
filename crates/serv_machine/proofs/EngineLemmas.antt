-- What an engine answers, as a machine's answer.
use Rattle.std.proofs.Common.{◌≡◌, ◌⊎◌, ℕ, ◌+◌, ◌-◌, ◌<◌, ◌≤◌, List, [], ◌∷◌, ◌++◌, length, refl, sym, ap, subst, ◌∙◌, ⊎_elim, inl, inr, arith, append-nil, append_assoc}
use Rattle.std.proofs.lemmas.Bool.Decides.{nat_tests}
use Rattle.svc_types.specs.declared.requests.Command.{Command}
use Rattle.svc_types.specs.declared.replies.Reply.{Reply}
use Rattle.svc_types.specs.declared.replies.Refusal.{Refusal}
use Rattle.svc_core.specs.Core.{IsReplyTo}
use Rattle.svc_world.specs.World.{Accepted, accepted}
use Rattle.svc_world.specs.Judging as judging
use Rattle.svc_world.specs.Judging.{Judgement, judged, IsHistory}
use Rattle.serv_engine.specs.declared.fault.EngineFault.{EngineFault}
use Rattle.serv_engine.specs.declared.fault.EngineFault.TheVariants as engine
use Rattle.serv_engine.specs.Engines.{EngineState, IsRunningIn, IsRunning, WasTaken, kept_of, begun_of}
use Rattle.serv_engine.specs.declared.taken.Taken.{Taken}
use Rattle.serv_engine.specs.declared.taken.Taken.TheVariants as taken
use Rattle.serv_machine.specs.History.{IsKeptBut, History, Journal, Decision, Full, Fresh, in_journal, by_room, by_judgement, decided, after_decision, history_of, kept_history, fault_of}
use Rattle.serv_engine.specs.Histories.{line_of_command, record_length, lengths_of, IsAroundFor, IsGoodFor}
use Rattle.serv_engine.proofs.LengthLemmas.{size_of}
use Rattle.serv_engine.proofs.RunningLemmas.{running_stands, kept_and_begun}
use Rattle.serv_journal.specs.declared.format.Version.TheVariants.{Two}
use Rattle.serv_engine.specs.Submitting.{HasRoom, IsFull, IsSubmitFault}
use Rattle.serv_machine.specs.declared.faults.ActFault.{ActFault}
use Rattle.serv_machine.specs.declared.faults.ActFault.TheVariants as fault
use Rattle.serv_machine.specs.Verdicts.{IsReplyBy, IsUnsaid, IsFaultBy}
use Rattle.std.specs.Prelude.{Result, Err, true, false, nat_lt, if◌then◌else◌}
use Rattle.serv_disk.specs.Disks.{Each, LeavesOnly, View}
use Rattle.serv_disk.proofs.Moments.{weaker}
use Rattle.serv_journal.specs.Format.{Form, IsForm}
use Rattle.serv_machine.specs.EngineLaws.{form_of, running_whole}
use Rattle.serv_machine.specs.OnDisk.{IsFormOf, HasHistory, IsGoodWith, IsAlong, IsTorn, OnDisk}
use Rattle.serv_machine.proofs.OnDiskLemmas.{disk_same, disk_kept, disk_stopped, disk_torn, good_for, history_before}

with_room : (base limit : ℕ) (h : List Accepted) (a : Accepted) → base + lengths_of h + record_length a ≤ limit → by_room (Journal base limit) h a ≡ Fresh
with_room base limit h a fits = grind (arith, nat_tests)

without_room : (base limit : ℕ) (h : List Accepted) (a : Accepted) → limit < base + lengths_of h + record_length a → by_room (Journal base limit) h a ≡ Full (base + lengths_of h)
without_room base limit h a past = grind (arith, nat_tests)

-- of a command that is fresh nothing was said, whether there is room or not
unsaid_by : (base limit : ℕ) (h : List Accepted) (a : Accepted) → IsUnsaid (by_room (Journal base limit) h a)
unsaid_by base limit h a = elim (nat_lt limit (base + lengths_of h + record_length a)) as (λ v. IsUnsaid (if v then Full (base + lengths_of h) else Fresh)) [ true ↦ tt | false ↦ tt ]

-- the journal's length is that without a command, and the records
back : (size n : ℕ) → n ≤ size → (size - n) + n ≡ size
back size n le = omega arith

room_of : (size n long limit line : ℕ) → long ≡ 7 + line → n ≤ size → size + 7 + line ≤ limit → (size - n) + n + long ≤ limit
room_of size n long limit line is le fits = omega arith

past_of : (size n long limit line : ℕ) → long ≡ 7 + line → n ≤ size → limit < size + 7 + line → limit < (size - n) + n + long
past_of size n long limit line is le past = omega arith

module _ (e : EngineState) (a : Accepted) (fits : lengths_of e.history ≤ e.journal.size) where
  abbrev base : ℕ
  base = e.journal.size - lengths_of e.history

  fresh_room : HasRoom e.journal a → by_room (Journal base e.journal.limit) e.history a ≡ Fresh
  fresh_room room = with_room base e.journal.limit e.history a (room_of e.journal.size (lengths_of e.history) (record_length a) e.journal.limit (length (line_of_command a)) refl fits room)

  full_room : IsFull e.journal a → by_room (Journal base e.journal.limit) e.history a ≡ Full e.journal.size
  full_room past = without_room base e.journal.limit e.history a (past_of e.journal.size (lengths_of e.history) (record_length a) e.journal.limit (length (line_of_command a)) refl fits past)
      ∙ ap Full (back e.journal.size (lengths_of e.history) fits)

  abbrev told : Judgement → Decision
  told said = by_judgement (Journal base e.journal.limit) e.history a said

  fresh_told : (said : Judgement) → said ≡ judging.Fresh → HasRoom e.journal a → told said ≡ Fresh
  fresh_told said fresh room = ap told fresh ∙ fresh_room room

  full_told : (said : Judgement) (bytes : ℕ) → said ≡ judging.Fresh → bytes ≡ e.journal.size → IsFull e.journal a → told said ≡ Full bytes
  full_told said bytes fresh size past = ap told fresh ∙ (full_room past ∙ ap Full (sym size))

  reply_told : (said : Judgement) (reply : Reply) → IsReplyTo e.history a.command said reply → (said ≡ judging.Fresh → HasRoom e.journal a) → IsReplyBy (history_of e) a.command (told said) reply
  reply_told (judging.Kept kept) reply is room = is
  reply_told (judging.Refused why) reply is room = absurd is
  reply_told judging.Fresh reply is room = subst (λ d. IsReplyBy (history_of e) a.command d reply) (sym (fresh_room (room refl))) is

  fault_told : (said : Judgement) (old new : ℕ) (f : EngineFault) → IsSubmitFault said e.journal a old new f → IsFaultBy (told said) old new (fault_of f)
  fault_told said old new (engine.Refused why) is = ap told is
  fault_told said old new (engine.JournalFull bytes) is = full_told said bytes is.0 is.1 is.2
  fault_told said old new engine.DiskFault is = (fresh_told said is.0 is.1, is.2)
  fault_told said old new engine.OutOfMemory is = subst (λ j. IsUnsaid (told j)) (sym is) (unsaid_by base e.journal.limit e.history a)
  fault_told said old new engine.NotJournal is = absurd is
  fault_told said old new (engine.Damaged place) is = absurd is

-- the engine after it
same_in : (b b' l l' : ℕ) (h h' : List Accepted) → b ≡ b' → l ≡ l' → h ≡ h' → in_journal b l h ≡ in_journal b' l' h'
same_in b b' l l' h h' bs ls hs = ap (λ x. in_journal x l h) bs ∙ (ap (λ x. in_journal b' x h) ls ∙ ap (λ x. in_journal b' l' x) hs)

base_on : (size n size' n' base : ℕ) → size ≡ base + n → size' ≡ base + n' → size' - n' ≡ size - n
base_on size n size' n' base is is' = omega arith

pub history_told : (old new : EngineState) (a : Accepted) (said : Judgement) (base : ℕ) (reply : Reply) → IsReplyTo old.history a.command said reply → old.journal.size ≡ base + lengths_of old.history
    → new.history ≡ judging.history_after old.history a.key a.command said → new.journal.limit ≡ old.journal.limit → new.journal.size ≡ base + lengths_of new.history
    → (said ≡ judging.Fresh → HasRoom old.journal a) → history_of new ≡ after_decision (history_of old) a (by_judgement (history_of old).store old.history a said)
history_told old new a (judging.Kept kept) base reply is size h limit size' room =
    same_in _ _ new.journal.limit old.journal.limit new.history old.history (base_on old.journal.size (lengths_of old.history) new.journal.size (lengths_of new.history) base size size') limit h
history_told old new a (judging.Refused why) base reply is size h limit size' room = absurd is
history_told old new a judging.Fresh base reply is size h limit size' room =
    let fits : lengths_of old.history ≤ old.journal.size = omega (arith, size) in
    same_in _ _ new.journal.limit old.journal.limit new.history (old.history ++ a ∷ []) (base_on old.journal.size (lengths_of old.history) new.journal.size (lengths_of new.history) base size size') limit h
    ∙ ap (after_decision (history_of old) a) (sym (fresh_room old a fits (room refl)))

-- ---- a machine's answers, over what an engine says

pub long_enough : (e : EngineState) (base : ℕ) → e.journal.size ≡ base + lengths_of e.history → lengths_of e.history ≤ e.journal.size
long_enough e base is = omega (arith, is)

pub act_reply : (e : EngineState) (key : List ℕ) (c : Command) (reply : Reply) → lengths_of e.history ≤ e.journal.size → IsReplyTo e.history c (judged e.history key c) reply
    → (judged e.history key c ≡ judging.Fresh → HasRoom e.journal (accepted key c)) → IsReplyBy (history_of e) c (decided (history_of e) key c) reply
unfolding decided
act_reply e key c reply fits is room = reply_told e (accepted key c) fits (judged e.history key c) reply is room

pub act_fault_is : (e : EngineState) (key : List ℕ) (c : Command) (old new : ℕ) (f : EngineFault) → lengths_of e.history ≤ e.journal.size
    → IsSubmitFault (judged e.history key c) e.journal (accepted key c) old new f → IsFaultBy (decided (history_of e) key c) old new (fault_of f)
unfolding decided
act_fault_is e key c old new f fits is = fault_told e (accepted key c) fits (judged e.history key c) old new f is

pub act_after : (old new : EngineState) (key : List ℕ) (c : Command) (base : ℕ) (reply : Reply) → IsReplyTo old.history c (judged old.history key c) reply → old.journal.size ≡ base + lengths_of old.history
    → new.history ≡ judging.history_after old.history key c (judged old.history key c) → new.journal.limit ≡ old.journal.limit → new.journal.size ≡ base + lengths_of new.history
    → (judged old.history key c ≡ judging.Fresh → HasRoom old.journal (accepted key c)) → history_of new ≡ after_decision (history_of old) (accepted key c) (decided (history_of old) key c)
unfolding decided
act_after old new key c base reply is size h limit size' room = history_told old new (accepted key c) (judged old.history key c) base reply is size h limit size' room

-- what it leaves on the disk
good_with : (form : Form) (h : History) (a : Accepted) (file : List ℕ) → IsForm form → IsFormOf h.store form → IsGoodFor form h.commands a file → IsGoodWith h a file
good_with form h a file is_form of_store good = record { good = record { form = form; is_form = is_form; good = good }; form = of_store }

-- the command behind a fault of the disk is fresh
pub fault_fresh : (e : EngineState) (a : Accepted) (said : Judgement) (old new : ℕ) (f : EngineFault) → IsSubmitFault said e.journal a old new f → f ≡ engine.DiskFault → said ≡ judging.Fresh
fault_fresh e a said old new f is same = (subst (IsSubmitFault said e.journal a old new) same is).0

-- a fault that is not the disk's leaves the engine and the disk
pub err_same : {D T : Type 0} (old new : D) (e e' : EngineState) (f : EngineFault) → (◌≡◌ {A = Result T ActFault} (Err (fault_of f)) (Err fault.DiskFault) → ⊥) → (f ≡ engine.DiskFault) ⊎ ((e' ≡ e) × (new ≡ old)) → (e' ≡ e) × (new ≡ old)
err_same old new e e' f other kept = ⊎_elim (λ is. absurd (other (ap (λ x. Err (fault_of x)) is))) (λ same. same) kept

-- ---- a command that is begun

-- the journal's length of an engine that runs
pub running_base : (images : List ℕ → Type 0) (e : EngineState) → IsRunning images e → e.journal.version ≡ Two → (place : ℕ) × (e.journal.size ≡ place + lengths_of e.history)
running_base images e r two = (length r.form.front + 1, size_of r.form e.history e.journal (running_stands r.form images e r.kept) two)

-- all that was held is kept behind it
pub kept_behind : (old new : EngineState) (base : ℕ) → kept_of new ≡ old.history → old.journal.size ≡ base + lengths_of old.history → new.journal.size ≡ base + lengths_of new.history → new.journal.limit ≡ old.journal.limit
    → kept_history new ≡ history_of old
kept_behind old new base kept size size' limit =
    same_in _ _ new.journal.limit old.journal.limit (kept_of new) old.history (base_on old.journal.size (lengths_of old.history) new.journal.size (lengths_of new.history) base size size') limit kept

next_history : (h : List Accepted) (a : Accepted) (behind all : List Accepted) → all ≡ h ++ a ∷ behind → IsHistory all → IsHistory (h ++ a ∷ [])
next_history h a behind all is history = history_before (h ++ a ∷ []) behind (subst IsHistory (is ∙ sym (append_assoc h (a ∷ []) behind)) history)

-- while a command is begun a content goes along it
pub around_along : (form : Form) (h : History) (begun : List Accepted) (file : List ℕ) → IsForm form → IsFormOf h.store form → IsAroundFor form h.commands begun file → IsAlong h begun file
around_along form h [] file is_form of_store whole = record { whole = record { form = form; is_form = is_form; whole = whole }; form = of_store }
around_along form h (a ∷ more) file is_form of_store good = inl (good_with form h a file is_form of_store good)

module _ {D : Type 0} (view : D → View) (old new : D) (form : Form) (is_form : IsForm form)
    (h : History) (of_store : IsFormOf h.store form) where
  -- the disk failed: the next command behind what is kept is the one that was begun, or where none was the new one
  pub torn_behind : (begun behind : List Accepted) (all : History) → all.commands ≡ (h.commands ++ begun) ++ behind → (begun ++ behind ≡ [] → ⊥) → IsHistory all.commands → Each (view new).images (IsAroundFor form h.commands begun)
      → LeavesOnly view old new (IsAroundFor form h.commands begun) → IsTorn view old new h all
  torn_behind [] [] all is some history each run = absurd (some refl)
  torn_behind [] (a ∷ behind) all is some history each run =
      let here : all.commands ≡ h.commands ++ a ∷ behind = is ∙ ap (λ x. x ++ a ∷ behind) (append-nil h.commands) in
      disk_torn view old new h all behind a here (next_history h.commands a behind all.commands here history)
      (λ c image. good_for h a c (around_along form h [] c is_form of_store (each c image)))
      (weaker view old new (IsAroundFor form h.commands []) (IsGoodWith h a) run (λ c whole. good_for h a c (around_along form h [] c is_form of_store whole)))
  torn_behind (a ∷ more) behind all is some history each run =
      let here : all.commands ≡ h.commands ++ a ∷ (more ++ behind) = is ∙ append_assoc h.commands (a ∷ more) behind in
      disk_torn view old new h all (more ++ behind) a here (next_history h.commands a (more ++ behind) all.commands here history)
      (λ c image. good_with form h a c is_form of_store (each c image))
      (weaker view old new (IsAroundFor form h.commands (a ∷ more)) (IsGoodWith h a) run (λ c good. good_with form h a c is_form of_store good))

module _ (e e' : EngineState) (key : List ℕ) (c : Command) (base : ℕ) (size : e.journal.size ≡ base + lengths_of e.history) where
  abbrev said : Judgement
  said = judged e.history key c

  pub act_fresh : said ≡ judging.Fresh → HasRoom e.journal (accepted key c) → decided (history_of e) key c ≡ Fresh
  unfolding decided
  act_fresh fresh room = fresh_told e (accepted key c) (long_enough e base size) said fresh room

  module _ (unchanged : Type 0) (same : unchanged → e' ≡ e) (is_begun : Type 0) (behind : is_begun → kept_of e' ≡ e.history) where
    pub kept_but : (t : Taken) → WasTaken said t unchanged is_begun → kept_history e ≡ history_of e → e'.journal.size ≡ base + lengths_of e'.history → e'.journal.limit ≡ e.journal.limit
        → (said ≡ judging.Fresh → HasRoom e.journal (accepted key c)) → IsKeptBut (decided (history_of e) key c ≡ Fresh) (history_of e) (history_of e') (kept_history e')
    kept_but (taken.Settled reply) was all size' limit room = inl (ap kept_history (same was.1) ∙ (all ∙ sym (ap history_of (same was.1))))
    kept_but (taken.Begun reply) was all size' limit room = inr (act_fresh was.0 (room was.0), kept_behind e e' base (behind was.1) size size' limit)

-- the same commands in the same journal
pub same_history : (e e' : EngineState) → e'.history ≡ e.history → e'.journal.size ≡ e.journal.size → e'.journal.limit ≡ e.journal.limit → history_of e' ≡ history_of e
same_history e e' history size limit =
    same_in _ _ e'.journal.limit e.journal.limit e'.history e.history (ap (λ n. n - lengths_of e'.history) size ∙ ap (λ h. e.journal.size - lengths_of h) history) limit history

-- nothing is taken
pub same_held : (e e' : EngineState) → e'.history ≡ e.history → e'.journal.size ≡ e.journal.size → e'.journal.limit ≡ e.journal.limit → kept_of e' ≡ kept_of e → kept_of e ≡ e.history
    → (history_of e' ≡ history_of e) × (kept_history e' ≡ history_of e)
same_held e e' history size limit kept all =
    let place : e'.journal.size - lengths_of e'.history ≡ e.journal.size - lengths_of e.history = ap (λ n. n - lengths_of e'.history) size ∙ ap (λ h. e.journal.size - lengths_of h) history in
    (same_in _ _ e'.journal.limit e.journal.limit e'.history e.history place limit history, same_in _ _ e'.journal.limit e.journal.limit (kept_of e') e.history place limit (kept ∙ all))

memory : ◌≡◌ {A = Result Reply ActFault} (Err fault.OutOfMemory) (Err fault.DiskFault) → ⊥
memory is = cc

-- a machine's fault of the disk is the engine's
pub disk_fault_is : (f : EngineFault) → ◌≡◌ {A = Result Reply ActFault} (Err (fault_of f)) (Err fault.DiskFault) → f ≡ engine.DiskFault
disk_fault_is engine.DiskFault is = refl
disk_fault_is (engine.Refused why) is = absurd (no why is)
  where
    no : (why : Refusal) → ◌≡◌ {A = Result Reply ActFault} (Err (fault.Refused why)) (Err fault.DiskFault) → ⊥
    no why is = cc
disk_fault_is (engine.JournalFull bytes) is = absurd (no bytes is)
  where
    no : (bytes : ℕ) → ◌≡◌ {A = Result Reply ActFault} (Err (fault.Full bytes)) (Err fault.DiskFault) → ⊥
    no bytes is = cc
disk_fault_is engine.OutOfMemory is = absurd (memory is)
disk_fault_is engine.NotJournal is = absurd (memory is)
disk_fault_is (engine.Damaged place) is = absurd (memory is)

pub some_behind : (begun : List Accepted) (a : Accepted) → begun ++ a ∷ [] ≡ [] → ⊥
some_behind [] a is = cc
some_behind (b ∷ begun) a is = cc

module _ {D : Type 0} (view : D → View) (old new : D) (e e' : EngineState)
    (only_now : (c : List ℕ) → (view old).since (view old).moment c → (view old).images c) (two : e.journal.version ≡ Two) (runs : IsRunning (view old).images e)
    (moments : (form : Form) → IsRunningIn form (view old).images e → LeavesOnly view old new (IsAroundFor form (kept_of e) (begun_of e))) where
  is_form : IsForm runs.form
  is_form = runs.kept.stands.is_form

  of_store : IsFormOf (history_of e).store runs.form
  of_store = form_of runs.form (view old).images e two runs.kept

  along : LeavesOnly view old new (IsAlong (kept_history e) (begun_of e))
  along =
      weaker view old new (IsAroundFor runs.form (kept_of e) (begun_of e)) (IsAlong (kept_history e) (begun_of e)) (moments runs.form runs.kept)
      (λ c around. around_along runs.form (kept_history e) (begun_of e) c is_form of_store around)

  pub kept_disk : (e' ≡ e) × (new ≡ old) → OnDisk view old new (kept_history e) (kept_history e') []
  kept_disk same = disk_same view old new (kept_history e) (kept_history e') same.1 (ap kept_history same.0) (running_whole (view old).images e two runs) only_now

  pub behind_disk : (h : History) → h.commands ≡ e.history → h.store ≡ (history_of e).store → IsHistory e.history → Each (view new).images (HasHistory h) → OnDisk view old new (kept_history e) h []
  behind_disk h is store history each =
      disk_kept view old new (kept_history e) h (begun_of e) (is ∙ sym (kept_and_begun e)) store (subst IsHistory (sym is) history) each along

  pub taken_disk : (Behind : Type 0) → (Behind → kept_history e' ≡ history_of e) → (t : Taken) (said : Judgement) → WasTaken said t ((e' ≡ e) × (new ≡ old)) Behind → IsHistory e.history
      → Each (view new).images (HasHistory (kept_history e')) → OnDisk view old new (kept_history e) (kept_history e') []
  taken_disk Behind behind (taken.Settled reply) j was history each = kept_disk was.1
  taken_disk Behind behind (taken.Begun reply) j was history each =
      let same = behind was.1 in
      behind_disk (kept_history e') (ap (λ (h : History). h.commands) same) (ap (λ (h : History). h.store) same) history each

  -- the disk failed as a command was begun: behind all that is kept it was perhaps being appended
  pub stopped_disk : (a : Accepted) → kept_history e ≡ history_of e → begun_of e ≡ [] → IsHistory (e.history ++ a ∷ [])
      → ((form : Form) → IsRunningIn form (view old).images e → Each (view new).images (IsAroundFor form (kept_of e) (begun_of e))) → OnDisk view old new (history_of e) (history_of e) (a ∷ [])
  stopped_disk a all none history good =
      let calm : (c : List ℕ) → IsAroundFor runs.form (kept_of e) (begun_of e) c → IsGoodWith (history_of e) a c =
      λ c around. good_for (history_of e) a c
      (subst (λ h. IsAlong h [] c) all (subst (λ l. IsAlong (kept_history e) l c) none (around_along runs.form (kept_history e) (begun_of e) c is_form of_store around))) in
      disk_stopped view old new (history_of e) (history_of e) a refl (λ _. history) (λ c image. calm c (good runs.form runs.kept c image))
      (weaker view old new (IsAroundFor runs.form (kept_of e) (begun_of e)) (IsGoodWith (history_of e) a) (moments runs.form runs.kept) calm)

  pub torn_disk : (behind : List Accepted) (all : History) → all.commands ≡ e.history ++ behind → (begun_of e ++ behind ≡ [] → ⊥) → IsHistory all.commands
      → ((form : Form) → IsRunningIn form (view old).images e → Each (view new).images (IsAroundFor form (kept_of e) (begun_of e))) → IsTorn view old new (kept_history e) all
  torn_disk behind all is some history good =
      torn_behind view old new runs.form is_form (kept_history e) of_store (begun_of e) behind all (is ∙ ap (λ x. x ++ behind) (sym (kept_and_begun e))) some history
      (good runs.form runs.kept) (moments runs.form runs.kept)
