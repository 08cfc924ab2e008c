-- How a run ends.
use Rattle.std.specs.Prelude.{ℕ}
use Rattle.svc_types.specs.declared.replies.Refusal.{Refusal}
use Rattle.svc_types.specs.declared.replies.Refusal.TheVariants as refusal
use Rattle.svc_core.specs.declared.fault.CoreFault.{CoreFault}
use Rattle.svc_core.specs.declared.fault.CoreFault.TheVariants as core
use Rattle.serv_engine.specs.declared.fault.EngineFault.{EngineFault}
use Rattle.serv_engine.specs.declared.fault.EngineFault.TheVariants as fault
use Rattle.serv_machine.specs.declared.faults.Stop.{Stop}
use Rattle.serv_machine.specs.declared.faults.Stop.TheVariants as stop
use Rattle.serv_texts.specs.declared.status.Status.{Status}
use Rattle.serv_texts.specs.declared.status.Status.TheVariants as status

-- the exit status
abbrev pub number_of : Status → ℕ
number_of status.Done = 0
number_of status.Usage = 2
number_of status.ReadFault = 3
number_of status.WriteFault = 4
number_of status.DiskFault = 5
number_of status.NotJournal = 6
number_of status.AlreadyThere = 7
number_of (status.Damaged place) = 8
number_of status.NetFault = 9
number_of (status.NoReport last) = 10
number_of (status.TooMuch bytes) = 11
number_of status.OutOfMemory = 12
number_of (status.JournalFull bytes) = 13

-- where no further request is answered
abbrev pub status_of : Stop → Status
status_of stop.WriteFault = status.WriteFault
status_of stop.DiskFault = status.DiskFault
status_of stop.OutOfMemory = status.OutOfMemory

-- the status of a run that opened no journal
abbrev pub status_of_fault : EngineFault → Status
status_of_fault fault.NotJournal = status.NotJournal
status_of_fault (fault.Damaged place) = status.Damaged place
status_of_fault fault.DiskFault = status.DiskFault
status_of_fault (fault.JournalFull bytes) = status.JournalFull bytes
status_of_fault fault.OutOfMemory = status.OutOfMemory
status_of_fault (fault.Refused why) = status.OutOfMemory

-- the status where a rule refuses a query: no other rule refuses a report, balances or the custodial accounts
abbrev pub status_of_refusal : Refusal → Status
status_of_refusal (refusal.NotClosed last) = status.NoReport last
status_of_refusal other = status.OutOfMemory

-- the status where a query has no answer
abbrev pub status_of_asking : CoreFault → Status
status_of_asking (core.Refused why) = status_of_refusal why
status_of_asking core.OutOfMemory = status.OutOfMemory
