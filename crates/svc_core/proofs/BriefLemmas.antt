-- A command is that for which it is kept, also once the terms of more loans stand behind its own.
use Rattle.std.proofs.Common.{◌≡◌, ℕ, zero, suc, ◌+◌, ◌<◌, ◌≤◌, List, [], ◌∷◌, ◌++◌, length, get_or, arith, refl, ap}
use Rattle.std.proofs.Math.Seq.{get_or-append_seam}
use Rattle.svc_types.specs.declared.terms.Terms.{Terms}
use Rattle.svc_types.specs.declared.requests.Command.{Command}
use Rattle.svc_types.specs.declared.requests.Command.TheVariants as command
use Rattle.svc_core.specs.declared.brief.Brief.{Brief}
use Rattle.svc_core.specs.declared.brief.Brief.TheVariants as brief
use Rattle.svc_core.specs.Briefs.{terms_in, brief_of, no_terms, command_of, StandsWithin}

before_more : (ts more : List Terms) (i : ℕ) → i < length ts → get_or (ts ++ more) i no_terms ≡ get_or ts i no_terms
before_more [] more i lt = absurd (omega arith)
before_more (t ∷ ts) more zero lt = refl
before_more (t ∷ ts) more (suc i) lt = before_more ts more i (omega arith)

pub same_command : (ts more : List Terms) (b : Brief) → StandsWithin (length ts) b → command_of (ts ++ more) b ≡ command_of ts b
same_command ts more (brief.Day d) h = refl
same_command ts more (brief.Board id place) h = ap (command.Board id) (before_more ts more place (h id place refl))
same_command ts more (brief.Pay id d c over) h = refl
same_command ts more (brief.Curtail id d c) h = refl
same_command ts more (brief.Payoff id d c) h = refl
same_command ts more (brief.Deposit id d c) h = refl
same_command ts more (brief.Disburse id d c line) h = refl
same_command ts more (brief.Refund id c) h = refl
same_command ts more (brief.Waive id c) h = refl
same_command ts more (brief.Reverse id number) h = refl
same_command ts more (brief.Line id line kind month every c) h = refl
same_command ts more (brief.Drop id line) h = refl
same_command ts more (brief.Analyse id plan) h = refl
same_command ts more (brief.Close p) h = refl
same_command ts more (brief.Remit p) h = refl
same_command ts more (brief.Retype id from kind) h = refl

pub stands_for : (ts : List Terms) (c : Command) → command_of (ts ++ terms_in c) (brief_of (length ts) c) ≡ c
stands_for ts (command.Day d) = refl
stands_for ts (command.Board id t) = ap (command.Board id) (get_or-append_seam ts t [] no_terms)
stands_for ts (command.Pay id d c over) = refl
stands_for ts (command.Curtail id d c) = refl
stands_for ts (command.Payoff id d c) = refl
stands_for ts (command.Deposit id d c) = refl
stands_for ts (command.Disburse id d c line) = refl
stands_for ts (command.Refund id c) = refl
stands_for ts (command.Waive id c) = refl
stands_for ts (command.Reverse id number) = refl
stands_for ts (command.Line id line kind month every c) = refl
stands_for ts (command.Drop id line) = refl
stands_for ts (command.Analyse id plan) = refl
stands_for ts (command.Close p) = refl
stands_for ts (command.Remit p) = refl
stands_for ts (command.Retype id from kind) = refl

pub stands_within : (n : ℕ) (c : Command) (m : ℕ) → n + length (terms_in c) ≤ m → StandsWithin m (brief_of n c)
stands_within n (command.Day d) m le i place is = absurd (cc)
stands_within n (command.Board id t) m le i place is = let at : n ≡ place = cc in omega (arith, at, le)
stands_within n (command.Pay id d c over) m le i place is = absurd (cc)
stands_within n (command.Curtail id d c) m le i place is = absurd (cc)
stands_within n (command.Payoff id d c) m le i place is = absurd (cc)
stands_within n (command.Deposit id d c) m le i place is = absurd (cc)
stands_within n (command.Disburse id d c line) m le i place is = absurd (cc)
stands_within n (command.Refund id c) m le i place is = absurd (cc)
stands_within n (command.Waive id c) m le i place is = absurd (cc)
stands_within n (command.Reverse id number) m le i place is = absurd (cc)
stands_within n (command.Line id line kind month every c) m le i place is = absurd (cc)
stands_within n (command.Drop id line) m le i place is = absurd (cc)
stands_within n (command.Analyse id plan) m le i place is = absurd (cc)
stands_within n (command.Close p) m le i place is = absurd (cc)
stands_within n (command.Remit p) m le i place is = absurd (cc)
stands_within n (command.Retype id from kind) m le i place is = absurd (cc)

pub few_terms : (c : Command) → length (terms_in c) ≤ 1
few_terms (command.Day d) = omega arith
few_terms (command.Board id t) = omega arith
few_terms (command.Pay id d c over) = omega arith
few_terms (command.Curtail id d c) = omega arith
few_terms (command.Payoff id d c) = omega arith
few_terms (command.Deposit id d c) = omega arith
few_terms (command.Disburse id d c line) = omega arith
few_terms (command.Refund id c) = omega arith
few_terms (command.Waive id c) = omega arith
few_terms (command.Reverse id number) = omega arith
few_terms (command.Line id line kind month every c) = omega arith
few_terms (command.Drop id line) = omega arith
few_terms (command.Analyse id plan) = omega arith
few_terms (command.Close p) = omega arith
few_terms (command.Remit p) = omega arith
few_terms (command.Retype id from kind) = omega arith
