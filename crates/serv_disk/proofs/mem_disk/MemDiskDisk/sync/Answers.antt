use Rattle.std.proofs.Common.{rules}
use Rattle.serv_disk.proofs.DiskLemmas.{sync_crash}
use Rattle.serv_disk.proofs.mem_disk.MemDiskDisk.sync.Goals as goal

pub returns-clause-crash : goal.returns-clause-crash
returns-clause-crash c = sync_crash c.args.self.now.first c.sync.new.self.first c.args.self.now.made c.sync.new.self.made (search rules) (search rules)
