-- A journal of version 1 that is written anew, and one of version 2 that is left.
use Rattle.std.proofs.Common.{◌≡◌, ℕ, ◌<◌, ◌≤◌, List, Bool, true, false, None, refl, ⊎_elim}
use Rattle.std.specs.Prelude.{Result, Ok, Err}
use Rattle.std.proofs.lemmas.Bool.{cases_lt}
use Rattle.serv_disk.specs.Disks.{Each, LeavesOnly, View}
use Rattle.serv_disk.proofs.Moments.{started}
use Rattle.serv_journal.specs.declared.format.Version.TheVariants.{One, Two}
use Rattle.serv_journal.specs.declared.faults.JournalFault.{JournalFault}
use Rattle.serv_journal.specs.Format.{Form, upgraded_form}
use Rattle.serv_journal.specs.States.{JournalState, StandsFor}
use Rattle.serv_journal.specs.Disks.{IsWholeIn, IsWhole, IsDurableFor}
use Rattle.serv_journal.proofs.BegunLemmas.{durable_kept}

-- nothing is called: the lines are whole at this moment
pub whole_now : {D : Type 0} (view : D → View) (disk : D) (j : JournalState) (lines : List (List ℕ))
    → ((c : List ℕ) → (view disk).since (view disk).moment c → (view disk).images c) → IsDurableFor (view disk).images j lines → LeavesOnly view disk disk (IsWhole lines)
whole_now view disk j lines only durable =
    started view disk (IsWhole lines) (λ c left. record { form = durable.form; is_form = durable.kept.stands.is_form; whole = durable.kept.each c (only c left) })

-- the disk keeps the lines in the form of the upgrade
pub upgraded_durable : (form : Form) (images : List ℕ → Type 0) (j : JournalState) (lines : List (List ℕ)) → StandsFor (upgraded_form form lines) lines j → (j.begun ≡ None) × (j.laid ≡ None)
    → Each images (IsWholeIn (upgraded_form form lines) lines) → IsDurableFor images j lines
upgraded_durable form images j lines stands none each = durable_kept (upgraded_form form lines) images j lines stands none.0 none.1 each

ok_no_err : {T E : Type 0} (x : T) (e : E) → ◌≡◌ {A = Result T E} (Ok x) (Err e) → ⊥
ok_no_err x e is = let no_way : ⊥ = cc in no_way

not_true : (b : Bool) → (b ≡ true → ⊥) → b ≡ false
not_true true no_way = absurd (no_way refl)
not_true false no_way = refl

-- after Ok it is not spent, and it was not too long
pub ok_unspent : {T : Type 0} (x : T) (e : JournalFault) (spent : Bool) → (spent ≡ true → ◌≡◌ {A = Result T JournalFault} (Ok x) (Err e)) → spent ≡ false
ok_unspent x e spent is = not_true spent (λ t. ok_no_err x e (is t))

pub ok_fits : {T : Type 0} (x : T) (e : JournalFault) (limit long : ℕ) → (limit < long → ◌≡◌ {A = Result T JournalFault} (Ok x) (Err e)) → long ≤ limit
ok_fits x e limit long is = ⊎_elim (λ less. absurd (ok_no_err x e (is less))) (λ fits. fits) (cases_lt limit long)

-- no version is both
pub two_not_one : (j : JournalState) → j.version ≡ Two → j.version ≡ One → ⊥
two_not_one j two one = let no_way : ⊥ = cc in no_way
