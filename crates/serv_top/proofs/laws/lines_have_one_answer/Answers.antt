use Rattle.serv_machine.specs.Sayings.{Say, SaidFirst}
use Rattle.serv_machine.proofs.AnsweringLemmas.{answers_one}
use Rattle.serv_top.specs.Lines.{Says}
use Rattle.serv_top.proofs.LineLemmas.{says_one, lines_one}
use Rattle.serv_top.proofs.CutLemmas.{cut_in_one}
use Rattle.serv_top.proofs.laws.lines_have_one_answer.Goals as goal

pub returns : goal.returns
returns c = record {
  says = says_one;
  answers = λ lines s a b x y p q. answers_one (Say Says lines) (lines_one lines) s a b x y p q;
  cut = λ waiting lines s t written is. cut_in_one (SaidFirst Says lines) waiting s t written is;
}
