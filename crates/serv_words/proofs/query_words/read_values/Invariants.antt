use Rattle.serv_words.proofs.AskLemmas.{Reads}
use Rattle.serv_words.proofs.query_words.read_values.Given as goal

abbrev pub invariant-loop-at : goal.invariant-loop-at
invariant-loop-at l = Reads l.fields l.words l.at l.values.items
