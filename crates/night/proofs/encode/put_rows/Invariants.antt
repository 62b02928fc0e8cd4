-- `put_rows`: the rows passed are stored.
use Rattle.night.specs.Format.{width, row_bytes}
use Rattle.graphs.specs.Jobs.{up_to}
use lib.Seq.{sets}
use mathlib.Core.List.{flat_map}
use mathlib.Core.Path.{◌≡◌}
use Rattle.night.proofs.encode.put_rows.Given as goal

abbrev pub invariant-loop-r : goal.invariant-loop-r
invariant-loop-r l =
    l.out ≡ sets l.initial.out 8 (flat_map (row_bytes (width l.layout.n) l.table.words.now) (up_to l.r))
