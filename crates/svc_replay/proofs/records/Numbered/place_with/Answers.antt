use Rattle.std.proofs.Common.{◌≡◌, ◌<◌, List, rules, arith, sym, subst}
use Rattle.std.specs.Prelude.{◌==◌, nat_lt, None}
use Rattle.std.specs.List.{AllPairs, find}
use Rattle.std.proofs.lemmas.List.Sorted.{IsPartitionPoint-from_clause}
use Rattle.svc_types.specs.declared.account.Entry.{Entry}
use Rattle.svc_spec.proofs.FindLemmas.{find_absent, number_partitioned}
use Rattle.svc_replay.specs.declared.brief.Brief.{Brief}
use Rattle.svc_replay.specs.Briefs.{expanded}
use Rattle.svc_replay.proofs.BriefLemmas.{expanded_length, numbers_parted, numbers_split, other_number}
use Rattle.svc_replay.proofs.records.Numbered.place_with.Goals as goal
use Rattle.svc_replay.proofs.records.Numbered.place_with.Goals.{else-place-self-via-then-place-self+else-self-place, else-place-self-via-else-place-self}

pub returns : goal.returns
returns c =
    let ss = c.self.inside.settled.now in
    let bs = c.self.inside.briefs.now in
    let n = c.args.number in
    let i = c.partition_point-place.result in
    let count = expanded_length ss bs in
    let rising : AllPairs (λ (e f : Entry). e.number < f.number) (expanded ss bs) = subst (AllPairs (λ (e f : Entry). e.number < f.number)) (sym c.self.view_is) c.requires in
    let point = numbers_split ss bs n i c.partition_point-place.ensures.bound (IsPartitionPoint-from_clause (λ (b : Brief). nat_lt b.number n) bs i c.partition_point-place.ensures.partitioned (numbers_parted ss bs n (number_partitioned (expanded ss bs) n rising)) (λ a r f' called. search rules)) in
    let none = find_absent (expanded ss bs) n i rising point (λ d lt. elim c.else-place-self.branch [
      | else-place-self-via-then-place-self+else-self-place w ↦ other_number ss bs i n w.index-self-place.result d (omega (arith, lt, count)) w.if-self-place.false
      | else-place-self-via-else-place-self w ↦ absurd (omega (arith, lt, count))
    ]) in
    subst (λ (es : List Entry). find (λ (e : Entry). e.number == n) es ≡ None) c.self.view_is none
