use Rattle.serv_http.proofs.ScanLemmas.{window-some, window-none}
use Rattle.std.proofs.Common.{refl}
use Rattle.serv_http.proofs.window.window.Goals as goal

pub returns-in-Some-clause-judged : goal.returns-in-Some-clause-judged
returns-in-Some-clause-judged c =
    (window-some c.args.buf.now c.in-Some.at c.requires.length c.in-Some.ensures.0 c.in-Some.ensures.1).looked

pub returns-in-Some-clause-closed : goal.returns-in-Some-clause-closed
returns-in-Some-clause-closed c =
    (window-some c.args.buf.now c.in-Some.at c.requires.length c.in-Some.ensures.0 c.in-Some.ensures.1).is_closed

pub returns-in-None-clause-judged : goal.returns-in-None-clause-judged
returns-in-None-clause-judged c = (window-none c.args.buf.now _ c.requires.length c.in-None.ensures refl).looked

pub returns-in-None-clause-closed : goal.returns-in-None-clause-closed
returns-in-None-clause-closed c = (window-none c.args.buf.now _ c.requires.length c.in-None.ensures refl).is_closed
