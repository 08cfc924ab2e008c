-- What a submitted command changes, by its verdict.
use Rattle.std.proofs.Common.{◌≡◌, ◌⊎◌, ℕ, ◌+◌, List, [], ◌∷◌, ◌++◌, Bool, true, false, inl, inr, ⊎_elim, refl, subst, sym, ap, ◌∙◌}
use Rattle.std.specs.Prelude.{Result, Ok, Err}
use Rattle.svc_types.specs.declared.requests.Command.{Command}
use Rattle.svc_types.specs.declared.replies.Reply.{Reply}
use Rattle.svc_world.specs.World.{Accepted, accepted}
use Rattle.svc_world.specs.Judging.{Judgement, Kept, Fresh, history_after, next_reply}
use Rattle.svc_core.specs.Core.{IsReplyTo}
use Rattle.serv_journal.specs.declared.format.Version.TheVariants.{Two}
use Rattle.serv_journal.specs.Format.{Form}
use Rattle.serv_journal.specs.States.{JournalState}
use Rattle.serv_engine.specs.declared.fault.EngineFault.{EngineFault}
use Rattle.serv_engine.specs.declared.fault.EngineFault.TheVariants as fault
use Rattle.serv_engine.specs.Histories.{lengths_of}
use Rattle.serv_engine.specs.declared.taken.Taken.{Taken}
use Rattle.serv_engine.specs.declared.taken.Taken.TheVariants.{Settled, Begun}
use Rattle.serv_engine.specs.Engines.{EngineState, IsRunningIn, WasTaken}
use Rattle.serv_engine.proofs.LengthLemmas.{size_grows}
use Rattle.serv_engine.proofs.RunningLemmas.{running_stands}

-- a kept reply
pub kept_reply : (h : List Accepted) (c : Command) (said : Judgement) (reply : Reply) → said ≡ Kept reply → IsReplyTo h c said reply
kept_reply h c said reply is = subst (λ j. IsReplyTo h c j reply) (sym is) refl

pub kept_history : (h new : List Accepted) (key : List ℕ) (c : Command) (said : Judgement) (reply : Reply) → said ≡ Kept reply → new ≡ h → new ≡ history_after h key c said
kept_history h new key c said reply is same = same ∙ sym (ap (λ j. history_after h key c j) is)

-- the reply to a fresh command
pub fresh_reply : (h : List Accepted) (c : Command) (said : Judgement) (reply : Reply) → said ≡ Fresh → reply ≡ next_reply h c → IsReplyTo h c said reply
fresh_reply h c said reply is next = subst (λ j. IsReplyTo h c j reply) (sym is) next

pub fresh_history : (h new : List Accepted) (key : List ℕ) (c : Command) (said : Judgement) → said ≡ Fresh → new ≡ h ++ accepted key c ∷ [] → new ≡ history_after h key c said
fresh_history h new key c said is more = more ∙ sym (ap (λ j. history_after h key c j) is)

pub one_more : (h mid new : List Accepted) (a : Accepted) → mid ≡ h → new ≡ mid ++ a ∷ [] → new ≡ h ++ a ∷ []
one_more h mid new a same more = more ∙ ap (λ x. x ++ a ∷ []) same

pub next_same : (h mid : List Accepted) (c : Command) (reply : Reply) → mid ≡ h → reply ≡ next_reply mid c → reply ≡ next_reply h c
next_same h mid c reply same is = is ∙ ap (λ x. next_reply x c) same

pub not_both : (said : Judgement) (reply : Reply) → said ≡ Kept reply → said ≡ Fresh → ⊥
not_both said reply kept fresh = let no_way : ⊥ = cc in no_way

-- a kept reply is taken with nothing changed
pub taken_unchanged : (said : Judgement) (taken : Taken) (unchanged behind : Type 0) (reply : Reply) → WasTaken said taken unchanged behind → said ≡ Kept reply → unchanged
taken_unchanged said (Settled r) unchanged behind reply was is = was.1
taken_unchanged said (Begun r) unchanged behind reply was is = absurd (not_both said reply is was.0)

-- the journal's length where it stands for both histories
pub length_more : (form : Form) (images : List ℕ → Type 0) (later : List ℕ → Type 0) (old new : EngineState) → IsRunningIn form images old → IsRunningIn form later new
    → old.journal.version ≡ Two → new.journal.version ≡ Two → (place : ℕ) → old.journal.size ≡ place + lengths_of old.history → new.journal.size ≡ place + lengths_of new.history
length_more form images later old new before after two still place is =
    size_grows form old.history new.history old.journal new.journal (running_stands form images old before) (running_stands form later new after) two still place is

pub length_same : (old new : EngineState) → new ≡ old → (place : ℕ) → old.journal.size ≡ place + lengths_of old.history → new.journal.size ≡ place + lengths_of new.history
length_same old new same place is = subst (λ (e : EngineState). e.journal.size ≡ place + lengths_of e.history) (sym same) is

-- spent exactly after the disk's fault
ok_no_err : {T E : Type 0} (x : T) (e : E) → ◌≡◌ {A = Result T E} (Ok x) (Err e) → ⊥
ok_no_err x e is = let no_way : ⊥ = cc in no_way

both_no : (b : Bool) → b ≡ false → b ≡ true → ⊥
both_no b closed opened = let no_way : ⊥ = cc in no_way

pub ok_not_spent : {T : Type 0} (value : T) (spent : Bool) → spent ≡ false
    → (◌≡◌ {A = Result T EngineFault} (Ok value) (Err fault.DiskFault) → spent ≡ true) × (spent ≡ true → ◌≡◌ {A = Result T EngineFault} (Ok value) (Err fault.DiskFault))
ok_not_spent value spent unspent = ((λ is. absurd (ok_no_err value fault.DiskFault is)), (λ t. absurd (both_no spent unspent t)))

not_true : (b : Bool) → (b ≡ true → ⊥) → b ≡ false
not_true true no_way = absurd (no_way refl)
not_true false no_way = refl

pub unspent_now : {T : Type 0} (value : T) (spent : Bool) → (spent ≡ true → ◌≡◌ {A = Result T EngineFault} (Ok value) (Err fault.DiskFault)) → spent ≡ false
unspent_now value spent back = not_true spent (λ t. ok_no_err value fault.DiskFault (back t))

err_inner : {T : Type 0} (f g : EngineFault) → ◌≡◌ {A = Result T EngineFault} (Err f) (Err g) → f ≡ g
err_inner f g is = cc

pub err_not_spent : {T : Type 0} (f : EngineFault) (spent : Bool) → (f ≡ fault.DiskFault → ⊥) → spent ≡ false
    → (◌≡◌ {A = Result T EngineFault} (Err f) (Err fault.DiskFault) → spent ≡ true) × (spent ≡ true → ◌≡◌ {A = Result T EngineFault} (Err f) (Err fault.DiskFault))
err_not_spent f spent other unspent = ((λ is. absurd (other (err_inner f fault.DiskFault is))), (λ t. absurd (both_no spent unspent t)))

pub err_spent : {S T : Type 0} (f : EngineFault) (spent : Bool)
    → (◌≡◌ {A = Result S EngineFault} (Err f) (Err fault.DiskFault) → spent ≡ true) → (spent ≡ true → ◌≡◌ {A = Result S EngineFault} (Err f) (Err fault.DiskFault))
    → (◌≡◌ {A = Result T EngineFault} (Err f) (Err fault.DiskFault) → spent ≡ true) × (spent ≡ true → ◌≡◌ {A = Result T EngineFault} (Err f) (Err fault.DiskFault))
err_spent f spent there back = ((λ is. there (ap (λ x. Err x) (err_inner f fault.DiskFault is))), (λ t. ap (λ x. Err x) (err_inner f fault.DiskFault (back t))))

-- the same engine by its parts
pub still_same : (h new : List Accepted) (j : JournalState) (e : EngineState) → new ≡ h → record { history = h; journal = j } ≡ e → record { history = new; journal = j } ≡ e
still_same h new j e same is = ap (λ (x : List Accepted). let r : EngineState = record { history = x; journal = j } in r) same ∙ is

pub kept_engine : {D : Type 0} (f : EngineFault) (h new : List Accepted) (j k : JournalState) (e : EngineState) (old later : D) → new ≡ h → record { history = h; journal = j } ≡ e
    → (f ≡ fault.DiskFault) ⊎ ((k ≡ j) × (later ≡ old)) → (f ≡ fault.DiskFault) ⊎ ((record { history = new; journal = k } ≡ e) × (later ≡ old))
kept_engine f h new j k e old later same is which =
    ⊎_elim (λ disk. inl disk)
    (λ both. inr (ap (λ (x : JournalState). let r : EngineState = record { history = new; journal = x } in r) both.0 ∙ still_same h new j e same is, both.1))
    which
