-- The replies to commands by number, of which only those that say something are kept.
use Rattle.std.specs.Prelude.{ℕ, ◌≤◌, ◌<◌, ◌==◌, List, map, Option, Some, None}
use Rattle.std.specs.List.{All, AllPairs, find, range_with_len}
use Rattle.svc_types.specs.declared.replies.Reply.{Reply}
use Rattle.svc_types.specs.declared.replies.Extra.TheVariants.{Plain}

-- a reply that was found under its number, else the one that says nothing beside it
abbrev pub or_plain : ℕ → Option Reply → Reply
or_plain n None = record { number = n; extra = Plain }
or_plain n (Some r) = r

-- the reply with a number: the kept one, or the one that says nothing beside it
abbrev pub reply_at : List Reply → ℕ → Reply
reply_at kept n = or_plain n (find (λ r. r.number == n) kept)

-- the first n replies, from 1
unfoldable pub replies_of : ℕ → List Reply → List Reply
replies_of n kept = map (reply_at kept) (range_with_len 1 n)

-- the numbers of kept replies rise, and each is one of n
pub record AreAmong (n : ℕ) (kept : List Reply) : Type 0 where
  pub rise : AllPairs (λ a b. a.number < b.number) kept
  pub few : All (λ r. r.number ≤ n) kept

-- replies, and for how many more there is room
pub record GivenReplies : Type 0 where
  pub list : List Reply
  pub room : ℕ
