use Rattle.std.proofs.Common.{Bor, List, [], ◌∷◌, ◌++◌, ℕ, ◌∙◌, sym, refl, inl, inr, Some, arith, length-append}
use Rattle.csv.specs.Reading.{Reached, default_config, strip_bom}
use Rattle.csv.specs.Records.{fields_of}
use Rattle.csv.specs.declared.parser.State.TheVariants as st
use Rattle.csv.proofs.ReadFacts.{rows-end, rows-more}
use Rattle.serv_rows.proofs.FaultLemmas.{fault_told}
use Rattle.serv_rows.proofs.RecordLemmas.{few_rows, all_rows}
use Rattle.serv_rows.proofs.TakenLemmas.{no_first, all_taken, row_of_file}
use Rattle.serv_rows.proofs.reading.read_rows.Goals as goal

pub loop-record-init : goal.loop-record-init
unfolding Reached
loop-record-init g c =
    let fr = c.from_reader-reader.ensures in
    let e = c.has_headers.ensures in
    let f = c.flexible.ensures in
    let start = c.into_iter-record-iterator.ensures.into_iter_gives ∙ refl in
    let rdr = c.into_byte_records-record-items.ensures.rdr in
    let left = c.into_byte_records-record-items.ensures.left in
    rw (start, rdr) (
      rw (f, e) at fr.trim ∙ c.new.ensures.trim,
      inr (inr (rw (f, e) at fr.has_headers, fr.headers)),
      left,
      rw (f, e) at fr.config ∙ c.new.ensures.config,
      omega arith,
      [],
      refl,
      c.requires.nothing,
      strip_bom c.args.bytes.now,
      fr.source,
      (sym fr.state, refl),
    )

pub loop-record-preserved : goal.loop-record-preserved
loop-record-preserved g c =
    let inv = c.loop-record.invariant in
    let s = rw (c.in-Some.is, c.in-Ok.is) at ((c.next.ensures.steps inv.2 inv.0).0 inv.1) in
    let row : List (List ℕ) = fields_of c.in-Ok.record in
    let m = rows-more (λ (s : Bor (List ℕ)). Some s.now) c.loop-record.record-iterator.rdr c.next.new.self.rdr row
    default_config st.StartRecord (strip_bom c.args.bytes.now) inv.8 inv.5 inv.3 inv.9 inv.10 s.0
    in
    let few = few_rows c.args.bytes.now m.0 (inv.5 ++ (row ∷ [])) c.next.new.self.rdr.state m.2 in
    let size = length-append inv.5 (row ∷ []) in (
      s.0.3 ∙ inv.0,
      inl s.1,
      s.2,
      s.0.2 ∙ inv.3,
      omega (arith, few, size, inv.6),
      inv.5 ++ (row ∷ []),
      omega (arith, size, inv.6),
      c.in_ok-take_row.ensures.taken inv.5 inv.6 inv.7,
      m.0,
      m.1,
      m.2,
    )

pub returns-in_err-take_row-clause-fault : goal.returns-in_err-take_row-clause-fault
returns-in_err-take_row-clause-fault g c =
    let inv = c.loop-record.invariant in
    let s = rw (c.in-Some.is, c.in-Ok.is) at ((c.next.ensures.steps inv.2 inv.0).0 inv.1) in
    let row : List (List ℕ) = fields_of c.in-Ok.record in
    let m = rows-more (λ (s : Bor (List ℕ)). Some s.now) c.loop-record.record-iterator.rdr c.next.new.self.rdr row
    default_config st.StartRecord (strip_bom c.args.bytes.now) inv.8 inv.5 inv.3 inv.9 inv.10 s.0
    in
    let all = row_of_file c.args.bytes.now m.0 inv.5 row c.next.new.self.rdr.state m.2 in
    fault_told (g.R.Row.faulty c.args.bytes.now) c.from_residual.result c.in_err-take_row.field-0.0 c.from_residual.ensures.1
    (c.in_err-take_row.ensures.fault c.args.bytes.now inv.5 all.0 all.1 inv.6 inv.7)

pub returns-then-number-eq1-clause-fault : goal.returns-then-number-eq1-clause-fault
returns-then-number-eq1-clause-fault g c =
    let inv = c.loop-record.invariant in
    let s = rw c.in-None.is at ((c.next.ensures.steps inv.2 inv.0).0 inv.1) in
    let all = all_rows c.args.bytes.now inv.8 inv.5 c.loop-record.record-iterator.rdr.state inv.10
    (rows-end (λ (s : Bor (List ℕ)). Some s.now) c.loop-record.record-iterator.rdr c.next.new.self.rdr [] default_config inv.8 inv.3 inv.9 s) in
    c.headless.ensures c.args.bytes.now (no_first g.R.Row.header c.args.bytes.now inv.5 c.loop-record.number inv.6 c.if-number-eq1.true all)

pub returns-clause-read : goal.returns-clause-read
returns-clause-read g c =
    let inv = c.loop-record.invariant in
    let s = rw c.in-None.is at ((c.next.ensures.steps inv.2 inv.0).0 inv.1) in
    let all = all_rows c.args.bytes.now inv.8 inv.5 c.loop-record.record-iterator.rdr.state inv.10
    (rows-end (λ (s : Bor (List ℕ)). Some s.now) c.loop-record.record-iterator.rdr c.next.new.self.rdr [] default_config inv.8 inv.3 inv.9 s) in
    all_taken g.R.Row.header g.R.Row.says c.args.bytes.now inv.5 c.loop-record.number c.loop-record.said inv.7 inv.6 c.if-number-eq1.false all
