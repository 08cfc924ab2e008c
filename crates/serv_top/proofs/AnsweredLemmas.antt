-- The rows that are answered are those of a file.
use Rattle.std.proofs.Common.{◌≡◌, ℕ, List, []}
use Rattle.std.specs.Prelude.{Option}
use Rattle.serv_disk.specs.Stamps.{Stamp}
use Rattle.serv_machine.specs.History.{History}
use Rattle.serv_machine.specs.OnDisk.{Upholds}
use Rattle.serv_machine.specs.Sayings.{Saying}
use Rattle.serv_machine.specs.Answering.{AreReplies}
use Rattle.serv_machine.proofs.AnsweringLemmas.{first_in, replies_wider}
use Rattle.serv_top.specs.Imported.{FileSays}
use Rattle.serv_disk.specs.Disks.{View}

pub file_written : (bytes : List ℕ) (saids : List Saying) (view : View) (now h : History) (held : Option (List ℕ)) (log log' : Option (List Stamp))
    → FileSays bytes saids → Upholds (AreReplies (λ all. all ≡ saids) h) view now held log log' → Upholds (AreReplies (FileSays bytes) h) view now held log log'
file_written bytes saids view now h held log log' file up =
    replies_wider (λ all. all ≡ saids) (FileSays bytes) view now h held log log' (λ done first. first_in saids (FileSays bytes) file done [] first) up
