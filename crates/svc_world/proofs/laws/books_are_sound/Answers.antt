use Rattle.svc_world.proofs.StayLemmas.{sound_books}
use Rattle.svc_world.proofs.laws.books_are_sound.Goals as goal

pub returns : goal.returns
returns c = record { sound = sound_books }
