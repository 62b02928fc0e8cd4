-- `put_rows`: the rows passed are stored.
use Rattle.night.proofs.Encoding.{put_row_part}
use Rattle.night.proofs.Pieces.{row_end}
use Rattle.night.specs.Format.{width}
use Rattle.sets.specs.Words.{jobs}
use Rattle.graphs.specs.Jobs.{up_to, from}
use mathlib.Core.List.{flat_map}
use native.Mathlib.Omega.{arith}
use mathlib.Core.Path.{refl}
use Rattle.night.proofs.encode.put_rows.Goals as goal

pub loop-r-init : goal.loop-r-init
unfolding flat_map up_to from
loop-r-init c =
    refl

pub loop-r-preserved : goal.loop-r-preserved
loop-r-preserved c =
    let a = c.args in
    let w = width a.layout.n in
    let k = row_end c.loop-r.r a.layout.n w c.loop-r-test.true in
    put_row_part w a.table.words.now a.out.now c.loop-r.out c.loop-r.r c.row_at-at.result _ (jobs c.row.result.words) _ c.loop-r.invariant c.row.ensures c.row_at-at.ensures (omega arith) (omega arith) c.put_set.ensures
