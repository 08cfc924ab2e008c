use Rattle.std.proofs.Common.{◌≡◌, length, take}
use Rattle.serde_json.specs.View.{view}
use Rattle.serv_json.specs.FieldsRead.{AreRead}
use Rattle.serv_json.proofs.members.read_fields.Given as goal

abbrev pub invariant-loop-field : goal.invariant-loop-field
invariant-loop-field l = record {
  count : length l.values.items ≡ l.field-index;
  read : AreRead (view l.body) (take l.field-index l.fields) l.values.items;
}
