-- What a draw asks for, by when.
use Rattle.std.specs.Prelude.{ℕ, List}
use Rattle.serv_drill.specs.declared.months.When.{When}
use Rattle.serv_drill.specs.declared.months.When.TheVariants.{InMonth, MonthLater}
use Rattle.serv_drill.specs.Works.{Work, work_of, late_work_of}

-- in the draw's month, or a month later
abbrev pub asked : When → ℕ → ℕ → ℕ → List Work
asked InMonth = work_of
asked MonthLater = late_work_of
