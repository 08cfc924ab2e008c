-- A text that is written over a journal.
use Rattle.std.proofs.Common.{◌≡◌, ℕ, ◌≤◌, List, [], length, take, refl, sym, ap, ◌∙◌, subst}
use Rattle.std.specs.List.{flat_map}
use Rattle.std.proofs.lemmas.List.{take_all}
use Rattle.std.proofs.lemmas.List.Folds.{flat_map-map}
use Rattle.std.specs.Prelude.{Option}
use Rattle.std.proofs.KnownBytes.{Appends-nil}
use Rattle.svc_types.specs.declared.requests.Command.{Command}
use Rattle.svc_world.specs.World.{Accepted, accepted}
use Rattle.svc_core.specs.Posted.{history_of}
use Rattle.serv_disk.specs.Faults.{IsProperPrefix}
use Rattle.serv_line.specs.Replies.{ended}
use Rattle.serv_engine.specs.Histories.{line_of_command}
use Rattle.serv_texts.specs.declared.status.Status.{Status}
use Rattle.serv_texts.specs.declared.status.Status.TheVariants as status
use Rattle.serv_texts.specs.Texts.{IsWrittenAs, Writes}
use Rattle.serv_texts.specs.Extracts.{lines_of_commands}

-- all lines of a list of commands
pub all_lines_of : (i : ℕ) (ps : List (List ℕ × Command)) → length ps ≤ i → flat_map (λ (p : List ℕ × Command). ended (line_of_command (accepted p.0 p.1))) (take i ps) ≡ lines_of_commands (history_of ps)
all_lines_of i ps all =
    ap (flat_map (λ (p : List ℕ × Command). ended (line_of_command (accepted p.0 p.1)))) (take_all i ps all)
    ∙ sym (flat_map-map (λ (a : Accepted). ended (line_of_command a)) (λ (p : List ℕ × Command). accepted p.0 p.1) ps)

-- a text that is one of those that are wanted
pub written_of : (st : Status) (T : List ℕ → Type 0) (text written : List ℕ) → T text → IsWrittenAs st (λ t. t ≡ text) written → IsWrittenAs st T written
written_of status.Done T text written is says = subst T (sym says) is
written_of status.WriteFault T text written is says = record { text = text; whole = is; cut = subst (IsProperPrefix written) says.whole says.cut }
written_of status.OutOfMemory T text written is says = says
written_of other T text written is says = absurd says

pub writes_of : (st : Status) (T : List ℕ → Type 0) (text : List ℕ) (held held' : Option (List ℕ)) → T text → Writes st (λ t. t ≡ text) held held' → Writes st T held held'
writes_of st T text held held' is w = record { written = w.written; wrote = w.wrote; says = written_of st T text w.written is w.says }

-- there is no memory for one
pub writes_nothing : (T : List ℕ → Type 0) (held : Option (List ℕ)) → Writes status.OutOfMemory T held held
writes_nothing T held = record { written = []; wrote = Appends-nil held; says = refl }
