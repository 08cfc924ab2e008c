-- What the responses that say verdicts stand on.
use Rattle.std.proofs.lemmas.Str.{IsAscii-take}

-- the front of a text in ASCII is in ASCII
pub ruleset ascii_fronts = IsAscii-take
