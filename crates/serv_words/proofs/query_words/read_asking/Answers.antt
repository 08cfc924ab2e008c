use Rattle.serv_words.proofs.AskLemmas.{are_asked, asked_words}
use Rattle.serv_words.proofs.query_words.read_asking.Goals as goal

pub returns-else-ne-clause-asked : goal.returns-else-ne-clause-asked
returns-else-ne-clause-asked c = are_asked c.args.words.now _ _ c.read_query.result c.in-len2-up.len_at_least c.if-is_empty.ensures c.if-ne.ensures c.read_query.ensures.well c.read_query.ensures.read

pub returns-else-ne-clause-only : goal.returns-else-ne-clause-only
returns-else-ne-clause-only c = λ q asking. c.read_query.ensures.only q asking.well (asked_words c.args.words.now q c.in-len2-up.len_at_least asking)
