-- What a durable engine leaves on the disk, and one that has begun a command.
use Rattle.std.proofs.Common.{◌≡◌, ℕ, ◌+◌, ◌-◌, ◌≤◌, List, length, sym, ap, ◌∙◌, arith}
use Rattle.serv_disk.specs.Disks.{Each}
use Rattle.serv_journal.specs.declared.format.Version.TheVariants.{Two}
use Rattle.serv_journal.specs.Format.{Form}
use Rattle.serv_journal.proofs.BegunLemmas.{rest_whole}
use Rattle.serv_engine.specs.Engines.{EngineState, IsDurable, IsRunningIn, IsRunning, kept_of, begun_of}
use Rattle.serv_engine.specs.Histories.{lines_of_history, lengths_of}
use Rattle.serv_engine.proofs.LengthLemmas.{size_of}
use Rattle.serv_engine.proofs.RunningLemmas as running
use Rattle.serv_machine.specs.History.{history_of, kept_history, in_journal}
use Rattle.serv_machine.specs.OnDisk.{IsFormOf, HasHistory}

place_is : (size n place : ℕ) → size ≡ place + n → size - n ≡ place
place_is size n place is = omega (arith, is)

-- the form in which it keeps them is that of its store
pub form_of : (form : Form) (images : List ℕ → Type 0) (e : EngineState) → e.journal.version ≡ Two → IsRunningIn form images e → IsFormOf (history_of e).store form
form_of form images e two runs =
    let stands = running.running_stands form images e runs in (
      sym stands.version ∙ two,
      place_is e.journal.size (lengths_of e.history) (length form.front + 1) (size_of form e.history e.journal stands two),
    )

pub running_whole : (images : List ℕ → Type 0) (e : EngineState) → e.journal.version ≡ Two → IsRunning images e → Each images (HasHistory (kept_history e))
running_whole images e two r = λ c image. record {
  whole = record {
    form = r.form;
    is_form = r.kept.stands.is_form;
    whole = rest_whole r.form (lines_of_history (kept_of e)) (lines_of_history (begun_of e)) c (r.kept.each c image);
  };
  form = form_of r.form images e two r.kept;
}

pub durable_whole : (images : List ℕ → Type 0) (e : EngineState) → e.journal.version ≡ Two → IsDurable images e → Each images (HasHistory (history_of e))
durable_whole images e two durable = λ c image. record {
  whole = record { form = durable.form; is_form = durable.kept.stands.is_form; whole = durable.kept.each c image };
  form = form_of durable.form images e two (running.durable_is_running durable.form images e durable.kept);
}

pub durable_kept : (images : List ℕ → Type 0) (e : EngineState) → IsDurable images e → kept_history e ≡ history_of e
durable_kept images e durable = ap (λ h. in_journal (e.journal.size - lengths_of e.history) e.journal.limit h) (running.none_kept_of e durable.kept.gate)

-- what is so much is no more than that
pub no_more : (n : ℕ) → n ≤ n
no_more n = omega arith
