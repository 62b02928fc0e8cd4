-- `fill_rows`: the rows passed are filled in.
use Rattle.night.specs.Format.{width}
use Rattle.night.specs.Reading.{row_at}
use Rattle.graphs.specs.Jobs.{up_to}
use lib.ListN.{drop}
use mathlib.Core.List.{◌++◌, flat_map}
use Prim.Native.Nat.{◌*◌}
use mathlib.Core.Path.{◌≡◌}
use Rattle.night.proofs.decode.NightFile.fill_rows.Given as goal

abbrev pub invariant-loop-r : goal.invariant-loop-r
invariant-loop-r l =
    l.rows ≡ flat_map (row_at l.self.bytes.now (width l.self.layout.n)) (up_to l.r) ++ drop (4 * l.r) l.initial.rows
