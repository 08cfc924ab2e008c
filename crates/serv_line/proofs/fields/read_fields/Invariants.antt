use Rattle.serv_line.specs.Lines.{words_left}
use Rattle.serv_line.proofs.FieldLemmas.{Reading}
use Rattle.serv_line.proofs.fields.read_fields.Given as goal

abbrev pub invariant-loop-field : goal.invariant-loop-field
invariant-loop-field l = Reading l.fields (words_left l.words) l.field-index l.values.items l.rest
