use Rattle.std.proofs.Common.{◌≡◌, ℕ, ◌+◌, ◌-◌, List, ◌++◌, length, drop, set, ap, ◌∙◌, arith}
use borrow.Rule.Slice.PartMut.{put_mid}
use Rattle.serv_journal.specs.Format.{two_bytes, four_bytes}
use Rattle.serv_journal.proofs.RecordLemmas.{laid_is}
use Rattle.serv_journal.proofs.records.lay_out.Goals as goal

pub returns : goal.returns
unfolding two_bytes four_bytes
returns c =
    let line : List ℕ = c.args.line.now in
    let head : List ℕ = four_bytes c.args.number ++ two_bytes (length line) in
    let head_is : c.copy_from_slice.new.self ≡ head = c.copy_from_slice.ensures.after ∙ c.head_of.ensures in
    let k : ℕ = 6 + length line - 6 in
    ap (λ t. set (put_mid 6 k (t ++ drop 6 c.args.room.now) c.copy_from_slice-2.new.self) (6 + length line) c.args.next) head_is
    ∙ (ap (λ t. set (put_mid 6 k (head ++ drop 6 c.args.room.now) t) (6 + length line) c.args.next) c.copy_from_slice-2.ensures.after
    ∙ laid_is head line c.args.room.now k c.args.next (omega arith) (omega arith) c.requires.room)
