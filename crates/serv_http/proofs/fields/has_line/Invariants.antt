use Rattle.std.proofs.Common.{◌≡◌, map, take, false}
use Rattle.std.specs.List.{list_any}
use Rattle.httparse.specs.Spans.{header_bytes}
use Rattle.serv_http.specs.Fields.{is_named}
use Rattle.serv_http.proofs.fields.has_line.Given as goal

abbrev pub invariant-loop-line : goal.invariant-loop-line
invariant-loop-line l = list_any (is_named l.name) (map (header_bytes l.buf) (take l.line-index l.lines)) ≡ false
