-- Lines that are answered to the end of a stream: what was answered stays on the disk.
use Rattle.std.proofs.Common.{◌≡◌, ℕ, ◌+◌, List, [], ◌++◌, length, sym, subst, arith, length-append}
use Rattle.std.specs.Prelude.{Option}
use Rattle.std.specs.Io.KnownBytes.{Consumes}
use Rattle.std.proofs.KnownBytes.{Consumes-trans}
use Rattle.serv_disk.specs.Stamps.{Stamp}
use Rattle.serv_machine.specs.History.{History, Stand, Running}
use Rattle.serv_top.specs.Lines.{Says, lines_of, ended_lines, open_line}
use Rattle.serv_top.specs.Outcome.{Served}
use Rattle.serv_machine.specs.OnDisk.{Upholds, IsAcknowledged}
use Rattle.serv_top.proofs.Cutting.{unended, ended_from, ended_lines-append, lines_of-from}
use Rattle.serv_top.proofs.Running.{Course}
use Rattle.serv_machine.specs.Sayings.{SaidFirst}
use Rattle.serv_machine.specs.Answering.{AreReplies}
use Rattle.serv_machine.proofs.AnsweringLemmas.{first_more, replies_wider}
use Rattle.serv_disk.specs.Disks.{View}

-- the bytes taken are served, and what was answered of their lines is upheld
pub record Going (view : View) (waiting : ℕ) (s : Stand) (t : Running) (left left' held held' : Option (List ℕ)) (line text : List ℕ) (count : ℕ) (log log' : Option (List Stamp)) : Type 0 where
  pub run : Course waiting s t left left' held held' line text count
  pub upheld : Upholds (AreReplies (SaidFirst Says (ended_lines run.taken)) s.history) view t.kept held log log'

module _ (view : View) (now h : History) (held : Option (List ℕ)) (log log' : Option (List Stamp)) where
  -- more bytes were taken
  pub upheld_taken : (bytes more : List ℕ) → Upholds (AreReplies (SaidFirst Says (ended_lines bytes)) h) view now held log log' → Upholds (AreReplies (SaidFirst Says (ended_lines (bytes ++ more))) h) view now held log log'
  upheld_taken bytes more up =
      let lines : List (List ℕ) = ended_from (open_line bytes) more in
      subst (λ ls. Upholds (AreReplies (SaidFirst Says ls) h) view now held log log') (sym (ended_lines-append bytes more))
      (replies_wider (SaidFirst Says (ended_lines bytes)) (SaidFirst Says (ended_lines bytes ++ lines)) view now h held log log' (λ done is. first_more Says (ended_lines bytes) lines done [] is) up)

  -- the lines that end are the first of all
  pub upheld_end : (bytes : List ℕ) → Upholds (AreReplies (SaidFirst Says (ended_lines bytes)) h) view now held log log' → Upholds (AreReplies (SaidFirst Says (lines_of bytes)) h) view now held log log'
  upheld_end bytes up =
      let lines : List (List ℕ) = unended (open_line bytes) in
      subst (λ ls. Upholds (AreReplies (SaidFirst Says ls) h) view now held log log') (sym (lines_of-from bytes))
      (replies_wider (SaidFirst Says (ended_lines bytes)) (SaidFirst Says (ended_lines bytes ++ lines)) view now h held log log' (λ done is. first_more Says (ended_lines bytes) lines done [] is) up)

  -- the bytes that were taken
  pub acknowledged : (left left' : Option (List ℕ)) (taken : List ℕ) → Consumes left left' taken → Upholds (AreReplies (SaidFirst Says (lines_of taken)) h) view now held log log'
      → IsAcknowledged (λ bytes. AreReplies (SaidFirst Says (lines_of bytes)) h) view now left left' held log log'
  acknowledged left left' taken took up = record { taken = taken; took = took; upheld = up }

-- more bytes are taken and served
pub going_more : {view : View} {waiting : ℕ} {s : Stand} {t : Running} {left left' held held' : Option (List ℕ)} {line text : List ℕ} {count : ℕ} {log log' : Option (List Stamp)}
    (going : Going view waiting s t left left' held held' line text count log log') (bytes : List ℕ) (n : ℕ) (t' : Running) (left'' held'' : Option (List ℕ)) (line' text' : List ℕ)
    (later : View) (log'' : Option (List Stamp)) → length bytes ≡ n → Consumes left' left'' bytes → Served waiting (going.run.taken ++ bytes) s t' held held'' line' text'
    → Upholds (AreReplies (SaidFirst Says (ended_lines (going.run.taken ++ bytes))) s.history) later t'.kept held log log''
    → Going later waiting s t' left left'' held held'' line' text' (count + n) log log''
going_more {left} {left'} going bytes n t' left'' held'' line' text' later log'' long took served up =
    let counted = going.run.count_is in
    let joined = length-append going.run.taken bytes in
    record {
      run = record { taken = going.run.taken ++ bytes; took = Consumes-trans left left' left'' going.run.taken bytes going.run.took took; served = served; count_is = omega (arith, counted, joined, long) };
      upheld = up;
    }
