-- What the bytes so far are, as a head.
use Rattle.std.specs.Prelude.{◌≡◌, ℕ, List, length, Bool, true, false}
use Rattle.httparse.specs.Grammar.{RequestHead, print_request}
use Rattle.serv_http.specs.declared.ask.Plan.{Plan}
use Rattle.serv_http.specs.declared.found.Found.{Found}
use Rattle.serv_http.specs.declared.found.Found.TheVariants.{Whole, Refused, TooLong, Waits}
use Rattle.serv_http.specs.Heads.{HasHead, IsRefused, IsClosed, IsOpen, IsTooLong}
use Rattle.serv_http.specs.Plans.{IsPlan, PlanFits}

-- the bytes begin with a head of that length, which has that plan
pub record IsWholeHead (s : List ℕ) (n : ℕ) (plan : Plan) : Type 0 where
  pub head : RequestHead
  pub here : HasHead s head
  pub size : n ≡ length (print_request head)
  pub planned : IsPlan head plan
  pub fits : PlanFits plan

-- the bytes are what was found
abbrev pub IsFound : List ℕ → Found → Type 0
IsFound s (Whole n plan) = IsWholeHead s n plan
IsFound s Refused = IsRefused s
IsFound s TooLong = IsTooLong s
IsFound s Waits = (¬ (IsClosed s)) × IsOpen s

-- the answer on bytes that may still become a head
abbrev pub OpenAnswer : Bool → Found → Type 0
OpenAnswer true found = found ≡ TooLong
OpenAnswer false found = found ≡ Waits
