use Rattle.std.proofs.Common.{◌≡◌, List, ℕ, Some, subst, sym, ◌∙◌}
use Rattle.serde_json.specs.Data.{Data}
use Rattle.serde_json.specs.Read.{read}
use Rattle.serde_json.specs.View.{view}
use Rattle.svc_types.specs.declared.requests.Request.{Request}
use Rattle.serv_json.specs.Bodies.{IsBodyOf}
use Rattle.serv_json.specs.FieldsRead.{HasBody}
use Rattle.serv_json.proofs.MemberLemmas.{asks, asked}
use Rattle.serv_json.proofs.RequestLemmas.{asks_once}
use Rattle.serv_json.proofs.reading.read_json.Goals as goal

-- what a body asks for stands in the value that is read
has_body : (d : Data) (body : List ℕ) (r : Request) → read body ≡ Some d → IsBodyOf r body → HasBody d r
has_body d body r e h =
    let same : Some h.json ≡ Some d = sym h.is_read ∙ e in
    let json : h.json ≡ d = cc in
    subst (λ (x : Data). HasBody x r) json (asked h.json r h.asks)

pub returns-in-Some-clause-read : goal.returns-in-Some-clause-read
returns-in-Some-clause-read c = record {
  utf8 = c.in-Ok.ensures.ok.0;
  json = view c.in-Ok.value;
  is_read = c.in-Ok.ensures.ok.1;
  asks = asks (view c.in-Ok.value) c.args.body.now c.in-Some.request c.in-Ok.ensures.ok.1 c.in-Some.ensures.read;
}

pub returns-in-Some-clause-only : goal.returns-in-Some-clause-only
returns-in-Some-clause-only c = λ s well h.
    asks_once (view c.in-Ok.value) c.in-Some.request s c.in-Some.ensures.well well c.in-Some.ensures.read
    (has_body (view c.in-Ok.value) c.args.body.now s c.in-Ok.ensures.ok.1 h)
