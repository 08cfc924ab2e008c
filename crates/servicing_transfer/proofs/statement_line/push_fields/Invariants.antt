use Rattle.std.specs.Prelude.{◌≡◌, ◌++◌, [], drop, map}
use Rattle.servicing_transfer.specs.FieldValues.{said}
use Rattle.servicing_transfer.proofs.FieldLemmas.{text_with}
use Rattle.servicing_transfer.proofs.statement_line.push_fields.Given as goal

abbrev pub invariant-loop-i : goal.invariant-loop-i
invariant-loop-i l =
    l.out.items ++ text_with l.gap (drop l.i (map said l.fields)) (drop l.i l.values) ≡ l.initial.out.items ++ text_with [] (map said l.fields) l.values
