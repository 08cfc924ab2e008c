use Rattle.serv_machine.specs.Sayings.{AreFirst, SaidFirst}
use Rattle.serv_top.specs.Lines.{Says}
use Rattle.serv_top.proofs.WholeLemmas.{but_whole, cut_off}
use Rattle.serv_top.proofs.laws.replies_are_whole.Goals as goal

pub returns : goal.returns
returns c = record {
  cut = λ lines s t written is. cut_off (AreFirst (SaidFirst Says lines)) s t written is;
  cut_rows = λ saids s t written is. cut_off _ s t written is;
  stopped = λ why lines s t pending written but. but_whole why (AreFirst (SaidFirst Says lines)) s t pending written but;
}
