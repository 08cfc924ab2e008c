use Rattle.std.proofs.Common.{rules}
use Rattle.serv_disk.proofs.DiskLemmas.{cut_crash}
use Rattle.serv_disk.proofs.mem_disk.MemDiskDisk.cut.Goals as goal

pub returns-clause-crash : goal.returns-clause-crash
returns-clause-crash c = cut_crash c.args.self.now.first c.end.new.self.first c.args.self.now.made c.end.new.self.made c.args.len (search rules) (search rules)
