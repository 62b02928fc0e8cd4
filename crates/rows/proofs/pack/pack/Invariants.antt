-- `pack`: row by row.
use Rattle.rows.proofs.Packing.{PackedRows}
use Rattle.rows.proofs.pack.pack.Given as goal

abbrev pub invariant-loop-r : goal.invariant-loop-r
invariant-loop-r l = PackedRows l.width l.r l.table l.rows
