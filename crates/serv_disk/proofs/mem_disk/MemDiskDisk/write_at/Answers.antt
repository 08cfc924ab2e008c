use Rattle.std.proofs.Common.{rules}
use Rattle.serv_disk.proofs.DiskLemmas.{wrote_crash}
use Rattle.serv_disk.proofs.mem_disk.MemDiskDisk.write_at.Goals as goal

pub returns-clause-crash : goal.returns-clause-crash
returns-clause-crash c =
    wrote_crash c.args.self.now.first c.end.new.self.first c.args.self.now.made c.end.new.self.made c.args.at c.args.bytes.now c.requires (search rules) (search rules)
