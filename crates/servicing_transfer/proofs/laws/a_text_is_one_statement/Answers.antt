use Rattle.servicing_transfer.proofs.FitsLemmas.{none_bad}
use Rattle.servicing_transfer.proofs.OneStatement.{one_day, one_statement, same_as_books}
use Rattle.servicing_transfer.proofs.OwnStatement.{own_statement}
use Rattle.servicing_transfer.proofs.laws.a_text_is_one_statement.Goals as goal

pub returns : goal.returns
returns c = record { not_bad = none_bad; one_day = one_day; one = one_statement; same = same_as_books; own = own_statement }
