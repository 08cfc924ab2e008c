-- A journal that is made.
use Rattle.std.proofs.Common.{ℕ, List, [], refl, inl}
use Rattle.serv_disk.specs.Disks.{Each}
use Rattle.serv_journal.specs.Format.{header, new_form}
use Rattle.serv_journal.specs.Disks.{IsWholeIn}
use Rattle.serv_machine.specs.History.{in_journal}
use Rattle.serv_machine.specs.OnDisk.{HasHistory}
use Rattle.serv_texts.specs.Journal.{journal_limit}

-- it is empty, of nine bytes
pub made_empty : (images : List ℕ → Type 0) → Each images (IsWholeIn new_form []) → Each images (HasHistory (in_journal 9 journal_limit []))
unfolding header
made_empty images each = λ c image. record { whole = record { form = new_form; is_form = inl refl; whole = each c image }; form = (refl, refl) }
