-- What is said to a machine, one thing after the other; what it replies to that, and what it holds after it. A line, a row of a file
-- and a request of a connection each say something.
use Rattle.std.specs.Prelude.{◌≡◌, ℕ, ◌+◌, ◌≤◌, List, [], ◌∷◌, ◌++◌, Option, Some, None, option_map, unwrap_or, IsSomeAnd}
use Rattle.svc_types.specs.declared.requests.Request.{Request}
use Rattle.svc_world.specs.World.{Accepted}
use Rattle.serv_machine.specs.History.{History, IsNear, Stand}
use Rattle.serv_machine.specs.Verdicts.{history_after_request, bound_of_request, commands_in, IsAppending}

-- the request that it asks, if it asks one, and the text of the reply, over what is held
pub record Saying : Type 0 where
  pub request : Option Request
  pub text : History → List ℕ

abbrev pub asking : Request → (History → List ℕ) → Saying
asking r text = record { request = Some r; text = text }

-- it asks nothing, and has one reply
abbrev pub telling : List ℕ → Saying
telling text = record { request = None; text = λ h. text }

abbrev pub reply_to : History → Saying → List ℕ
reply_to h said = said.text h

-- what is held after it
abbrev pub history_after : History → Saying → History
history_after h said = unwrap_or (option_map (history_after_request h) said.request) h

-- the steps of it, at most
abbrev pub bound_of : History → Saying → ℕ
bound_of h said = unwrap_or (option_map (bound_of_request h) said.request) 0

-- the command that it brings, if it brings one
abbrev pub commands_of : Saying → List Accepted
commands_of said = unwrap_or (option_map commands_in said.request) []

-- it brings a command that is fresh, and for which there is room
abbrev pub IsFresh : History → Saying → Type 0
IsFresh h said = IsSomeAnd said.request (IsAppending h)

-- ---- one after the other

-- the history after all of it
abbrev pub history_after_all : History → List Saying → History
history_after_all h [] = h
history_after_all h (said ∷ more) = history_after_all (history_after h said) more

-- the replies to all of it, joined
abbrev pub replies_to : History → List Saying → List ℕ
replies_to h [] = []
replies_to h (said ∷ more) = reply_to h said ++ replies_to (history_after h said) more

-- the steps of all of it, at most
abbrev pub bound_of_all : History → List Saying → ℕ
bound_of_all h [] = 0
bound_of_all h (said ∷ more) = bound_of h said + bound_of_all (history_after h said) more

-- ---- where the books stand

-- all of it was acted on, within its bound
abbrev pub MovesAll : List Saying → Stand → Stand → Type 0
MovesAll saids s s' =
    (s'.history ≡ history_after_all s.history saids) × (s'.steps ≤ s.steps + bound_of_all s.history saids)

-- ---- where it has no reply

-- it was acted on or not, within its bound: no memory was there for its reply
pub record Starves (said : Saying) (s s' : Stand) : Type 0 where
  pub near : IsNear s.history (history_after s.history said) s'.history
  pub cost : s'.steps ≤ s.steps + bound_of s.history said

-- the disk failed while its command, which is fresh, was being appended; it is not accepted
pub record Sticks (said : Saying) (s s' : Stand) (pending : List Accepted) : Type 0 where
  pub fresh : IsFresh s.history said
  pub pending_is : pending ≡ commands_of said
  pub same : s'.history ≡ s.history
  pub cost : s'.steps ≤ s.steps + bound_of s.history said

-- ---- what things say

-- each says one of these in turn
abbrev pub Say : {A : Type 0} → (A → Saying → Type 0) → List A → List Saying → Type 0
Say Says [] [] = Unit {0}
Say Says [] (said ∷ more) = ⊥
Say Says (item ∷ items) [] = ⊥
Say Says (item ∷ items) (said ∷ more) = Says item said × Say Says items more

-- some first ones of these things say it
pub record SaidFirst {A : Type 0} (Says : A → Saying → Type 0) (items : List A) (saids : List Saying) : Type 0 where
  pub acted : List A
  pub others : List A
  pub items_are : items ≡ acted ++ others
  pub say : Say Says acted saids

-- of all that is said, which is so: what comes first, and what comes next
pub record AreFirst (Whole : List Saying → Type 0) (done ahead : List Saying) : Type 0 where
  pub saids : List Saying
  pub whole : Whole saids
  pub others : List Saying
  pub saids_are : saids ≡ done ++ (ahead ++ others)
