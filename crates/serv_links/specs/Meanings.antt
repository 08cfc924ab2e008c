-- What the requests of a connection mean to the books.
use Rattle.std.specs.Prelude.{◌≡◌, ℕ, List, [], false, ◌==◌, Option, None, is_some, ⊤, ◌-◌, length, take, Bool, true, Some}
use Rattle.svc_types.specs.Requests.{IsQuery, IsRequest}
use Rattle.svc_types.specs.declared.requests.Request.{Request}
use Rattle.svc_types.specs.declared.requests.Request.TheVariants as request
use Rattle.serv_http.specs.declared.ask.Allow.{Allow}
use Rattle.serv_http.specs.declared.ask.Ask.{Ask}
use Rattle.serv_http.specs.declared.ask.Ask.TheVariants.{Post, Get, Fault}
use Rattle.serv_http.specs.Responses.{IsSent, has_body, response}
use Rattle.serv_json.specs.Bodies.{IsBodyOf}
use Rattle.serv_links.specs.declared.meaning.Meaning.{Meaning}
use Rattle.serv_links.specs.declared.meaning.Meaning.TheVariants.{Asks, Faulty}
use Rattle.serv_line.specs.Refusals.{code_of}
use Rattle.serv_json.specs.Replies.{reply_text}
use Rattle.serv_machine.specs.declared.faults.Stop.{Stop}
use Rattle.serv_machine.specs.declared.faults.Stop.TheVariants.{WriteFault, DiskFault, OutOfMemory}
use Rattle.serv_machine.specs.declared.verdict.Verdict.{Verdict}
use Rattle.serv_machine.specs.declared.verdict.Verdict.TheVariants.{Reply, Refused, Full}
use Rattle.serv_machine.specs.History.{History}
use Rattle.serv_machine.specs.Verdicts.{verdict_to, text_of_verdict}
use Rattle.serv_machine.specs.Sayings.{Saying, asking, telling}

-- no request has this body
abbrev pub IsNoBody : List ℕ → Type 0
IsNoBody body = (r : Request) → IsRequest r → ¬ (IsBodyOf r body)

-- a command's body means the request that it asks for, or 400 where it asks for none; all else is meant as it stands
abbrev pub Means : Ask → Meaning → Type 0
Means (Post body last) (Asks r ends) = IsRequest r × IsBodyOf r body × (ends ≡ last)
Means (Post body last) (Faulty status ends allow) =
    IsNoBody body × (status ≡ 400) × (ends ≡ last) × (allow ≡ None)
Means (Get q last) (Asks r ends) = (r ≡ request.Ask q) × (ends ≡ last)
Means (Get q last) (Faulty status ends allow) = ⊥
Means (Fault status last allow) (Asks r ends) = ⊥
Means (Fault status last allow) (Faulty status' ends allow') =
    (status' ≡ status) × (ends ≡ last) × (allow' ≡ allow)

-- a status that is sent without a body, with the method of the route at 405
pub record IsFault (status : ℕ) (allow : Option Allow) : Type 0 where
  pub sent : IsSent status
  pub bare : has_body status ≡ false
  pub method : is_some allow ≡ (status == 405)

-- what connections ask is of this form
abbrev pub IsAsk : Ask → Type 0
IsAsk (Post body last) = ⊤
IsAsk (Get q last) = IsQuery q
IsAsk (Fault status last allow) = IsFault status allow

-- and what they mean
abbrev pub IsFormed : Meaning → Type 0
IsFormed (Asks r ends) = IsRequest r
IsFormed (Faulty status ends allow) = IsFault status allow

-- ---- The responses to requests, and what is written where there is none.

-- ---- a verdict

-- 409 where a request is refused, or the journal is full, and 200 where it is answered
abbrev pub status_of : Verdict → ℕ
status_of (Refused why) = 409
status_of (Full bytes) = 409
status_of other = 200

-- 0, or the code of the refusal; 26 is the journal's
abbrev pub code_of_verdict : Verdict → ℕ
code_of_verdict (Refused why) = code_of why
code_of_verdict (Full bytes) = 26
code_of_verdict other = 0

-- the accepted command's number
abbrev pub number_of_verdict : Verdict → Option ℕ
number_of_verdict (Reply reply) = Some reply.number
number_of_verdict other = None

-- a reply's text without its last byte, a line feed
abbrev pub without_last : List ℕ → List ℕ
without_last text = take (length text - 1) text

-- ---- a response

-- that says a verdict: its status, and in the body its code, its number and its text
unfoldable pub response_of : Verdict → Bool → List ℕ
response_of v ends =
    response (status_of v)
    (reply_text (code_of_verdict v) (number_of_verdict v) (without_last (text_of_verdict v))) ends None

abbrev pub response_in : Option Verdict → Bool → List ℕ
response_in None ends = []
response_in (Some v) ends = response_of v ends

unfoldable pub response_to : History → Request → Bool → List ℕ
response_to h r ends = response_in (verdict_to h r) ends

-- what a request of a connection says
abbrev pub saying_of : Meaning → Saying
saying_of (Asks r ends) = asking r (λ h. response_to h r ends)
saying_of (Faulty status ends allow) = telling (response status [] ends allow)

-- by what it means
pub data Says (a : Ask) : Saying → Type 0 where
  means : (meaning : Meaning) → Means a meaning → Says a (saying_of meaning)

-- where the disk failed, and where no memory was there
unfoldable pub response_500 : List ℕ
response_500 = response 500 [] true None

unfoldable pub response_503 : List ℕ
response_503 = response 503 [] true None

-- what is written where no further request is answered
abbrev pub last_text : Stop → List ℕ
last_text WriteFault = []
last_text DiskFault = response_500
last_text OutOfMemory = response_503
