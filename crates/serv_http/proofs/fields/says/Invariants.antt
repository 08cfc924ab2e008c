use Rattle.std.proofs.Common.{◌≡◌, map, take, false}
use Rattle.std.specs.List.{list_any}
use Rattle.httparse.specs.Spans.{header_bytes}
use Rattle.serv_http.specs.Fields.{is_saying}
use Rattle.serv_http.proofs.fields.says.Given as goal

abbrev pub invariant-loop-line : goal.invariant-loop-line
invariant-loop-line l = list_any (is_saying l.name l.word) (map (header_bytes l.buf) (take l.line-index l.lines)) ≡ false
