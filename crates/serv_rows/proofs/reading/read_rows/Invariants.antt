use Rattle.std.proofs.Common.{◌≡◌, ◌+◌, ◌<◌, ◌≤◌, ℕ, List, Some, length}
use Rattle.csv.specs.Reading.{Reached, Ready, default_config, source_of, strip_bom}
use Rattle.csv.specs.declared.parser.State.TheVariants as st
use Rattle.csv.specs.declared.reader.Trim.TheVariants as trim
use Rattle.serv_rows.specs.Taking.{IsTaken}
use Rattle.serv_rows.proofs.reading.read_rows.Given as goal

abbrev pub invariant-loop-record : goal.invariant-loop-record
invariant-loop-record g l =
    (l.record-iterator.rdr.trim ≡ trim.None) × Ready l.record-iterator.rdr × (0 < l.record-iterator.left)
    × (l.record-iterator.rdr.config ≡ default_config) × (l.number ≤ length l.fn.bytes + 1)
    × (rows : List (List (List ℕ))) × (l.number ≡ length rows + 1) × IsTaken g.R.Row.header g.R.Row.says rows l.said
    × (y : List ℕ) × (source_of (λ s. Some s.now) l.record-iterator.rdr ≡ Some y)
    × Reached default_config st.StartRecord (strip_bom l.fn.bytes) rows l.record-iterator.rdr.state y
