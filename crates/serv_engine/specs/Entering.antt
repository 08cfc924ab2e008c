-- What a call leaves that takes a command so far.
use Rattle.std.specs.Prelude.{List, [], ◌∷◌, ◌++◌}
use Rattle.serv_engine.specs.declared.until.Until.{Until}
use Rattle.serv_engine.specs.declared.until.Until.TheVariants.{Begun, Kept}

-- what a crash within the call leaves torn, whole or not at all: what was begun before it, or, where nothing was and the call
-- waits for its own, that
abbrev pub risked : {X : Type 0} → Until → List X → X → List X
risked Begun begun x = begun
risked Kept begun x = x ∷ []

-- what is kept after it behind all that was there, and what is begun
abbrev pub kept_after : {X : Type 0} → Until → List X → X → List X
kept_after Begun before x = before
kept_after Kept before x = before ++ x ∷ []

abbrev pub begun_after : {X : Type 0} → Until → X → List X
begun_after Begun x = x ∷ []
begun_after Kept x = []
