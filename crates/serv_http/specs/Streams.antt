-- The requests of a stream: what its bytes ask for, one request after another, up to the first
-- that ends the connection.
use Rattle.std.specs.Prelude.{◌≡◌, ℕ, ◌<◌, ◌≤◌, ◌⊎◌, List, [], ◌∷◌, length, take, drop, Bool, true, false, Option, Some, None}
use Rattle.httparse.specs.Grammar.{RequestHead, print_request}
use Rattle.serv_http.specs.declared.ask.Ask.{Ask}
use Rattle.serv_http.specs.declared.ask.Ask.TheVariants as ask
use Rattle.serv_http.specs.declared.ask.Due.{Due}
use Rattle.serv_http.specs.declared.ask.Due.TheVariants as due
use Rattle.serv_http.specs.declared.ask.Plan.{Plan}
use Rattle.serv_http.specs.declared.ask.Plan.TheVariants.{Now, Pass, Keep}
use Rattle.serv_http.specs.Heads.{HasHead, IsRefused, IsClosed, IsOpen, IsTooLong}
use Rattle.serv_http.specs.Plans.{IsPlan}

-- what is due is asked
abbrev pub ask_of : Due → Ask
ask_of (due.Get q last) = ask.Get q last
ask_of (due.Fault status last allow) = ask.Fault status last allow

-- the connection ends after the response
abbrev pub ends : Ask → Bool
ends (ask.Post body last) = last
ends (ask.Get q last) = last
ends (ask.Fault status last allow) = last

-- these bytes after a head are its body and a rest
abbrev pub Completes : Plan → List ℕ → Ask → List ℕ → Type 0
Completes (Now d) t a rest = (a ≡ ask_of d) × (rest ≡ t)
Completes (Pass n d) t a rest = (n ≤ length t) × (a ≡ ask_of d) × (rest ≡ drop n t)
Completes (Keep n last) t a rest = (n ≤ length t) × (a ≡ ask.Post (take n t) last) × (rest ≡ drop n t)

-- the body is not whole
abbrev pub Lacks : Plan → List ℕ → Type 0
Lacks (Now d) t = ⊥
Lacks (Pass n d) t = length t < n
Lacks (Keep n last) t = length t < n

-- the bytes after a head
abbrev pub after_head : List ℕ → RequestHead → List ℕ
after_head s h = drop (length (print_request h)) s

-- the stream begins with a request: a head, and its body
pub record IsRequest (s : List ℕ) (a : Ask) (rest : List ℕ) : Type 0 where
  pub head : RequestHead
  pub here : HasHead s head
  pub plan : Plan
  pub planned : IsPlan head plan
  pub whole : Completes plan (after_head s head) a rest

-- a head is there whose body is not whole
pub record LacksBody (s : List ℕ) : Type 0 where
  pub head : RequestHead
  pub here : HasHead s head
  pub plan : Plan
  pub planned : IsPlan head plan
  pub lacks : Lacks plan (after_head s head)

-- the first request or fault of a stream, and what is left
abbrev pub IsFirst : List ℕ → Ask → List ℕ → Type 0
IsFirst s a rest =
    (IsRefused s × (a ≡ ask.Fault 400 true None) × (rest ≡ s))
    ⊎ (IsTooLong s × (a ≡ ask.Fault 431 true None) × (rest ≡ s))
    ⊎ IsRequest s a rest

-- nothing is there to be answered yet
abbrev pub IsAwaited : List ℕ → Type 0
IsAwaited s = ((¬ (IsClosed s)) × IsOpen s) ⊎ LacksBody s

-- the requests and faults of a stream up to the first that ends the connection, and what is left
-- of its bytes: none where the connection has ended
abbrev pub AsksTo : List ℕ → List Ask → Option (List ℕ) → Type 0
AsksTo s [] left = IsAwaited s × (left ≡ Some s)
AsksTo s (a ∷ more) left =
    (t : List ℕ) × IsFirst s a t
    × (((ends a ≡ true) × (more ≡ []) × (left ≡ None)) ⊎ ((ends a ≡ false) × AsksTo t more left))
