use Rattle.std.proofs.Common.{subst}
use Rattle.serv_images.specs.DiskCalls.{IsImage}
use Rattle.serv_images.specs.Crashes.{crashed}
use Rattle.serv_images.specs.Kept.{KeptState}
use Rattle.serv_images.proofs.CrashLemmas.{crash_image}
use Rattle.serv_images.proofs.kept.Kept.crash.Goals as goal

pub returns-clause-image : goal.returns-clause-image
returns-clause-image c =
    subst (λ (k : KeptState). IsImage k.first k.made (crashed c.args.torn c.args.longer k.first k.made)) c.self.view_is
    (crash_image c.args.torn c.args.longer c.self.inside.first.items _ c.self.invariant.0.within)
