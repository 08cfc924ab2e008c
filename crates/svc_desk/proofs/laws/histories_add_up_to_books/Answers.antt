use Rattle.svc_desk.proofs.ToldLemmas.{history_to_books}
use Rattle.svc_desk.proofs.laws.histories_add_up_to_books.Goals as goal

pub returns : goal.returns
returns c = record { books = history_to_books }
