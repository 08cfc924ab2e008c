use Rattle.serv_links.proofs.OneLemmas.{all_one, cut_of_all, first_of_all, means_one}
use Rattle.serv_links.proofs.laws.any_pieces.Goals as goal

pub returns : goal.returns
returns c = record { same = all_one; first = first_of_all; cut = cut_of_all; means = means_one }
