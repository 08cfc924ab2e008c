use Rattle.std.proofs.Common.{◌≡◌, map, take}
use Rattle.httparse.specs.Spans.{header_bytes}
use Rattle.serv_http.specs.Fields.{content_length, values_of}
use Rattle.serv_http.proofs.fields.length_of.Given as goal

abbrev pub invariant-loop-line : goal.invariant-loop-line
invariant-loop-line l = l.said ≡ content_length (values_of l.name (map (header_bytes l.buf) (take l.line-index l.lines)))
