use Rattle.serv_http.proofs.response.phrase_of.Goals as goal

pub returns-in_default : goal.returns-in_default
returns-in_default c = absurd (c.in_default.ensures c.requires)
