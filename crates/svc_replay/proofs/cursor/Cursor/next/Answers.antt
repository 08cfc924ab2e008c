use Rattle.std.proofs.Common.{◌≡◌, ◌+◌, ◌≤◌, ◌<◌, Some, rules, arith, sym, subst, ◌∙◌}
use Rattle.std.specs.Prelude.{IfSome, min}
use Rattle.svc_base.specs.Calendar.{first_day}
use Rattle.svc_types.specs.declared.account.Entry.{Entry}
use Rattle.svc_replay.specs.Left.{next_late}
use Rattle.svc_replay.proofs.LeftLemmas.{next_few, next_is, at_least, entries_end, entries_past, entries_from, month_leads, late_leads, entry_leads, none_leads}
use Rattle.svc_replay.proofs.CursorLemmas.{taken_more}
use Rattle.svc_replay.proofs.cursor.Cursor.next.Goals as goal

pub returns-then-is_month_next-clause-follows : goal.returns-then-is_month_next-clause-follows
returns-then-is_month_next-clause-follows c =
    let t = c.args.terms.now in
    let live = c.args.live.now in
    let at = c.args.self.now in
    let until = c.until-until.result in
    let entries = entries_from live at.entry c.args.day until c.requires.entries.order c.until-until.ensures.some in
    let next : IfSome (next_late t at.lates.count) (λ late. first_day (at.month + 1) ≤ late) = subst (λ o. IfSome o (λ late. first_day (at.month + 1) ≤ late)) c.requires.next (c.is_month_next.ensures.late c.if-is_month_next.true) in
    rw (c.first_day.ensures, c.plus-self.ensures) (month_leads t live c.args.day at.month at.lates.count at.entry until c.requires.terms (c.is_month_next.ensures.month c.if-is_month_next.true) c.until-until.ensures.by next entries)

pub returns-then-is_month_next-clause-by : goal.returns-then-is_month_next-clause-by
returns-then-is_month_next-clause-by c h =
    let more = c.is_month_next.ensures.month c.if-is_month_next.true in
    let by = c.until-until.ensures.by in
    record { month = omega arith; few = h.few; over = h.over; taken = h.taken }

pub returns-in-Some-clause-follows : goal.returns-in-Some-clause-follows
returns-in-Some-clause-follows c =
    let t = c.args.terms.now in
    let live = c.args.live.now in
    let at = c.args.self.now in
    let until = c.until-until.result in
    let late = c.in-Some.late in
    let entries = entries_from live at.entry c.args.day until c.requires.entries.order c.until-until.ensures.some in
    let is : next_late t at.lates.count ≡ Some late = sym c.requires.next ∙ c.in-Some.ensures.0 in
    let same : late ≤ late = omega arith in
    let before = c.is_month_next.ensures.later c.if-is_month_next.false late c.in-Some.ensures.1 (subst (λ o. IfSome o (λ x. late ≤ x)) (sym c.in-Some.ensures.0) same) in
    rw (c.lates_after-self.ensures.count, next_is t at.lates.count late is) (late_leads t live c.args.day at.month at.lates.count at.entry until late c.requires.terms is c.in-Some.ensures.1 c.until-until.ensures.by before entries)

pub returns-in-Some-clause-by : goal.returns-in-Some-clause-by
returns-in-Some-clause-by c h =
    let t = c.args.terms.now in
    let k = c.args.self.now.lates.count in
    let late = c.in-Some.late in
    let is : next_late t k ≡ Some late = sym c.requires.next ∙ c.in-Some.ensures.0 in
    let same = next_is t k late is in
    let few = next_few t k late is in
    let by = c.until-until.ensures.by in
    let low : late ≤ c.until-until.result = c.in-Some.ensures.1 in
    rw c.lates_after-self.ensures.count (record { month = h.month; few = omega arith; over = λ some. omega arith; taken = h.taken })

pub returns-then-self-len-clause-follows : goal.returns-then-self-len-clause-follows
returns-then-self-len-clause-follows c =
    let t = c.args.terms.now in
    let live = c.args.live.now in
    let at = c.args.self.now in
    let d = c.args.day in
    let until = c.until-until.result in
    let last : until ≡ d = c.until-until.ensures.none (omega arith) in
    let same : until ≤ until = omega arith in
    let before = c.is_month_next.ensures.later c.if-is_month_next.false until same (at_least at.lates.next until c.in_default.ensures) in
    let next : IfSome (next_late t at.lates.count) (λ late. until < late) = subst (λ o. IfSome o (λ late. until < late)) c.requires.next c.in_default.ensures in
    none_leads t live d at.month at.lates.count at.entry c.requires.terms (omega arith) (subst (λ x. IfSome (next_late t at.lates.count) (λ late. x < late)) last next) (entries_end live at.entry d (omega arith))

pub returns-then-gt-clause-follows : goal.returns-then-gt-clause-follows
returns-then-gt-clause-follows c =
    let t = c.args.terms.now in
    let live = c.args.live.now in
    let at = c.args.self.now in
    let d = c.args.day in
    let e = c.at-entry.result in
    let until = c.until-until.result in
    let past : d < e.day = search rules in
    let some : until ≡ min e.day d = c.until-until.ensures.some (omega arith) e c.at-entry.ensures in
    let last : until ≡ d = omega arith in
    let same : until ≤ until = omega arith in
    let before = c.is_month_next.ensures.later c.if-is_month_next.false until same (at_least at.lates.next until c.in_default.ensures) in
    let next : IfSome (next_late t at.lates.count) (λ late. until < late) = subst (λ o. IfSome o (λ late. until < late)) c.requires.next c.in_default.ensures in
    none_leads t live d at.month at.lates.count at.entry c.requires.terms (omega arith) (subst (λ x. IfSome (next_late t at.lates.count) (λ late. x < late)) last next) (entries_past live at.entry d e c.requires.entries.order (omega arith) (sym c.at-entry.ensures) past)

pub returns-clause-follows : goal.returns-clause-follows
returns-clause-follows c =
    let t = c.args.terms.now in
    let live = c.args.live.now in
    let at = c.args.self.now in
    let d = c.args.day in
    let e = c.at-entry.result in
    let until = c.until-until.result in
    let low : e.day ≤ d = search rules in
    let some : until ≡ min e.day d = c.until-until.ensures.some (omega arith) e c.at-entry.ensures in
    let first : until ≡ e.day = omega arith in
    let same : until ≤ until = omega arith in
    let before = c.is_month_next.ensures.later c.if-is_month_next.false until same (at_least at.lates.next until c.in_default.ensures) in
    let next : IfSome (next_late t at.lates.count) (λ late. until < late) = subst (λ o. IfSome o (λ late. until < late)) c.requires.next c.in_default.ensures in
    entry_leads t live d at.month at.lates.count at.entry e c.requires.terms c.requires.entries.order (omega arith) (subst (λ x. IfSome (next_late t at.lates.count) (λ late. x < late)) first next) (omega arith) (sym c.at-entry.ensures) low

pub returns-clause-by : goal.returns-clause-by
returns-clause-by c h =
    let e = c.at-entry.result in
    let low : e.day ≤ c.args.day = search rules in
    record {
      month = h.month;
      few = h.few;
      over = h.over;
      taken = taken_more (λ (x : Entry). x.day ≤ c.args.day) c.args.live.now c.args.self.now.entry e (omega arith) (sym c.at-entry.ensures) low h.taken;
    }
