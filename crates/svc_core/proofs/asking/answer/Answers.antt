use Rattle.std.proofs.Common.{length}
use Rattle.svc_core.proofs.AskLemmas.{on_day}
use Rattle.svc_core.proofs.asking.answer.Goals as goal

pub ask_books-requires : goal.ask_books-requires
ask_books-requires g c = let s = c.args.state.now in on_day (length c.args.posted.now.history) s.today s.loans s.seals c.requires.state

pub ask_at-requires : goal.ask_at-requires
ask_at-requires g c = let s = c.args.state.now in on_day (length c.args.posted.now.history) s.today s.loans s.seals c.requires.state

pub ask_payoff-requires : goal.ask_payoff-requires
ask_payoff-requires g c = let s = c.args.state.now in on_day (length c.args.posted.now.history) s.today s.loans s.seals c.requires.state

pub ask_escrow-requires-clause-on_day : goal.ask_escrow-requires-clause-on_day
ask_escrow-requires-clause-on_day g c = let s = c.args.state.now in on_day (length c.args.posted.now.history) s.today s.loans s.seals c.requires.state

pub ask_terms-requires : goal.ask_terms-requires
ask_terms-requires g c = let s = c.args.state.now in on_day (length c.args.posted.now.history) s.today s.loans s.seals c.requires.state

pub ask_history-requires : goal.ask_history-requires
ask_history-requires g c = let s = c.args.state.now in on_day (length c.args.posted.now.history) s.today s.loans s.seals c.requires.state

pub ask_quote-requires : goal.ask_quote-requires
ask_quote-requires g c = let s = c.args.state.now in on_day (length c.args.posted.now.history) s.today s.loans s.seals c.requires.state

pub ask_arrears-requires : goal.ask_arrears-requires
ask_arrears-requires g c = let s = c.args.state.now in on_day (length c.args.posted.now.history) s.today s.loans s.seals c.requires.state

pub ask_aging-requires-clause-today : goal.ask_aging-requires-clause-today
ask_aging-requires-clause-today g c = let s = c.args.state.now in on_day (length c.args.posted.now.history) s.today s.loans s.seals c.requires.state
