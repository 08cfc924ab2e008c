-- What the text of a command with its reply says without a sign is not below 0.
use Rattle.std.specs.Prelude.{pos, ◌≤ℤ◌, ⊤}
use Rattle.svc_types.specs.Requests.{IsCommand}
use Rattle.svc_types.specs.declared.escrow.Figures.{Figures}
use Rattle.svc_types.specs.declared.replies.Extra.{Extra}
use Rattle.svc_types.specs.declared.replies.Extra.TheVariants as extra
use Rattle.svc_types.specs.declared.replies.Reply.{Reply}
use Rattle.svc_types.specs.declared.requests.Command.{Command}
use Rattle.svc_world.specs.Unsigned.{AreUnsignedFigures}

-- what an analysis found, all but the balance, and what it settled
pub record AreUnsignedResults (f : Figures) : Type 0 where
  pub found : AreUnsignedFigures f
  pub refund : pos 0 ≤ℤ f.refund
  pub within30 : pos 0 ≤ℤ f.within30
  pub pay : pos 0 ≤ℤ f.pay

-- what a reply says beside its number: the sums of a report, and what the investor was sent, have signs
abbrev pub IsUnsignedExtra : Extra → Type 0
IsUnsignedExtra extra.Plain = ⊤
IsUnsignedExtra (extra.Analysed f) = AreUnsignedResults f
IsUnsignedExtra (extra.Closed lines interest principal) = ⊤
IsUnsignedExtra (extra.Remitted net) = ⊤

abbrev pub IsUnsignedReply : Reply → Type 0
IsUnsignedReply r = IsUnsignedExtra r.extra

-- a command with its reply: each amount of the command is one that requests may name, so it is not below 0
pub record IsUnsignedPosting (c : Command) (r : Reply) : Type 0 where
  pub command : IsCommand c
  pub reply : IsUnsignedReply r
