use Rattle.std.specs.Prelude.{◌≡◌, drop, length, map, take}
use Rattle.serv_line.specs.Lines.{words_of, words_left}
use Rattle.servicing_transfer.specs.FieldValues.{said}
use Rattle.servicing_transfer.proofs.FieldLemmas.{Reading}
use Rattle.servicing_transfer.proofs.loan_line.read_values.Given as goal

abbrev pub invariant-loop-i : goal.invariant-loop-i
invariant-loop-i l = record {
  nine : length l.values ≡ 9;
  reading : Reading (map said l.fields) (words_of l.line) (drop l.i (map said l.fields)) (take l.i l.values) (words_left l.rest);
}
