use Rattle.std.proofs.Common.{◌≡◌, List, [], length, drop}
use Rattle.serv_images.specs.DiskCalls.{DiskCall}
use Rattle.serv_images.specs.Kept.{bytes_in, calls_of}
use Rattle.serv_images.specs.Crashes.{torn_file}
use Rattle.serv_images.proofs.tearing.tear_all.Given as goal

-- the calls so far are older than those that are left, and what is left of their writes is laid
abbrev pub invariant-loop-step : goal.invariant-loop-step
invariant-loop-step l = (older : List DiskCall) × record {
  calls : calls_of l.steps l.fn.pool [] ≡ calls_of (drop l.step-index l.steps) l.rest older;
  laid : l.file ≡ torn_file l.torn l.synced (length l.fn.file) older;
  pooled : bytes_in (drop l.step-index l.steps) ≡ length l.rest;
}
