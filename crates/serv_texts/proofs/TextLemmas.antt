-- Texts that are written over a journal.
use Rattle.std.proofs.Common.{◌≡◌, ℕ, ◌+◌, ◌≤◌, Bool, true, false, List, [], ◌∷◌, refl, sym, ap, subst, ◌∙◌, inl, inr}
use Rattle.std.specs.Prelude.{Option, Some, Result, Ok, Err, IfOk, not}
use Rattle.std.specs.Io.KnownBytes.{Consumes}
use Rattle.std.proofs.KnownBytes.{Appends-nil, Consumes-nil}
use Rattle.svc_types.specs.declared.requests.Query.{Query}
use Rattle.svc_types.specs.declared.requests.Query.TheVariants as query
use Rattle.svc_types.specs.declared.replies.Refusal.{Refusal}
use Rattle.svc_types.specs.declared.replies.Refusal.TheVariants as refusal
use Rattle.period_adjust.specs.Conditions.{first_month, last_month}
use Rattle.svc_world.specs.World.{World, Accepted, world}
use Rattle.svc_world.specs.Answers.{query_refusal, refusal_from}
use Rattle.svc_world.specs.Refusals.{first_of, case, report_cases, is_closed_by, is_before_first}
use Rattle.svc_core.specs.Core.{IsQueryFault}
use Rattle.svc_core.specs.declared.fault.CoreFault.{CoreFault}
use Rattle.svc_core.specs.declared.fault.CoreFault.TheVariants as core
use Rattle.serv_texts.specs.declared.status.Status.{Status}
use Rattle.serv_texts.specs.declared.status.Status.TheVariants as status
use Rattle.serv_words.specs.declared.texts.Text.{Text}
use Rattle.serv_words.specs.declared.texts.Text.TheVariants.{Show}
use Rattle.serv_words.specs.Asked.{IsShowing, reads_input}
use Rattle.serv_texts.specs.Status.{status_of_asking, status_of_refusal}
use Rattle.serv_texts.specs.Input.{IsUnread}
use Rattle.serv_texts.specs.Texts.{IsWrittenAs, Writes, IsInput, IsLacking, IsSaidAs, IsTextOf, WritesText, text_bound}
use Rattle.serv_texts.proofs.WrittenLemmas.{written_of}

-- a fact of a value, where one is there
pub ok_map : {A E : Type 0} (r : Result A E) {P Q : A → Type 0} → ((a : A) → P a → Q a) → IfOk r P → IfOk r Q
ok_map (Ok a) f is = f a is
ok_map (Err e) f is = tt

-- nothing is read where no input is
pub nothing_read : (reads : Bool) (items : List ℕ) (left : Option (List ℕ)) → reads ≡ false → items ≡ [] → Consumes left left items × IsInput reads items left
nothing_read reads items left none empty =
    (subst (Consumes left left) (sym empty) (Consumes-nil left), subst (λ b. IsInput b items left) (sym none) empty)

-- ---- why there is none

-- no other rule refuses a report, balances or the custodial accounts
only_cause : (b c : Bool) (r why : Refusal) → first_of (case b r ∷ case c r ∷ []) ≡ Some why → r ≡ why
only_cause true c r why e = cc
only_cause false true r why e = cc
only_cause false false r why e = absurd (cc)

report_only : (w : World) (m : ℕ) (why : Refusal) → first_of (report_cases w m) ≡ Some why → refusal.NotClosed (last_month w.seals.reports) ≡ why
report_only w m why e =
    only_cause (not (is_closed_by (last_month w.seals.reports) m)) (is_before_first (first_month w.seals.reports) m) (refusal.NotClosed (last_month w.seals.reports)) why e

not_closed_only : (h : List Accepted) (q : Query) (why : Refusal) → IsShowing q → query_refusal h q ≡ Some why → (last : Option ℕ) × (refusal.NotClosed last ≡ why)
unfolding refusal_from
not_closed_only h (query.Report m) why is e = (last_month (world h).seals.reports, report_only (world h) m why e)
not_closed_only h (query.Trial m) why is e = (last_month (world h).seals.reports, report_only (world h) m why e)
not_closed_only h query.Custodial why is e = absurd (cc)
not_closed_only h other why is e = absurd is

pub lacking_of : (h : List Accepted) (q : Query) (fault : CoreFault) → IsShowing q → IsQueryFault (query_refusal h q) fault → IsLacking (Show q) h (status_of_asking fault)
lacking_of h q (core.Refused why) is e =
    let only = not_closed_only h q why is e in
    subst (λ w. IsLacking (Show q) h (status_of_refusal w)) only.1 (e ∙ ap Some (sym only.1))
lacking_of h q core.OutOfMemory is e = tt

-- ---- what is written

said_whole : (st : Status) (text : Text) (h : List Accepted) (input whole written : List ℕ) → IsTextOf text h input whole → IsWrittenAs st (λ t. t ≡ whole) written → IsSaidAs st text h input written
said_whole (status.NoReport last) text h input whole written is says = absurd says
said_whole other text h input whole written is says = written_of other (IsTextOf text h input) whole written is says

said_none : (st : Status) (text : Text) (h : List Accepted) (input : List ℕ) → IsLacking text h st → IsSaidAs st text h input []
said_none (status.NoReport last) text h input is = (refl, is)
said_none status.OutOfMemory text h input is = refl
said_none other text h input is = absurd is

module _ (st : Status) (text : Text) (h : List Accepted) (taken : List ℕ) (steps steps' : ℕ) (left left' : Option (List ℕ)) (took : Consumes left left' taken) where
  pub writes_whole : (whole : List ℕ) (held held' : Option (List ℕ)) → IsInput (reads_input text) taken left' → IsTextOf text h taken whole → Writes st (λ t. t ≡ whole) held held' → steps' ≤ steps + text_bound text h taken
      → WritesText st text h steps steps' left left' held held'
  writes_whole whole held held' read is w cost = record { taken = taken; took = took; written = w.written; wrote = w.wrote; says = (inr (read, said_whole st text h taken whole w.written is w.says), cost) }

  pub writes_none : (held : Option (List ℕ)) → IsInput (reads_input text) taken left' → IsLacking text h st → steps' ≤ steps + text_bound text h taken → WritesText st text h steps steps' left left' held held
  writes_none held read is cost = record { taken = taken; took = took; written = []; wrote = Appends-nil held; says = (inr (read, said_none st text h taken is), cost) }

  pub writes_unread : (held : Option (List ℕ)) → reads_input text ≡ true → IsUnread st taken → steps' ≤ steps + text_bound text h taken → WritesText st text h steps steps' left left' held held
  writes_unread held reads is cost = record { taken = taken; took = took; written = []; wrote = Appends-nil held; says = (inl (reads, is, refl), cost) }
