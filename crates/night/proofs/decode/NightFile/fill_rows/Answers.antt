-- `fill_rows`: the rows passed are filled in.
use Rattle.night.proofs.Decoding.{row_within, rows_more, rows_done}
use Rattle.night.specs.Format.{width}
use Rattle.graphs.specs.Jobs.{up_to, from}
use mathlib.Core.List.{flat_map}
use native.Mathlib.Omega.{arith}
use mathlib.Core.Path.{refl, ◌∙◌}
use Rattle.night.proofs.decode.NightFile.fill_rows.Goals as goal

pub loop-r-init : goal.loop-r-init
unfolding flat_map up_to from
loop-r-init c =
    refl

pub row-requires : goal.row-requires
row-requires c =
    let file = c.args.self in
    (omega arith, row_within file.bytes.now file.layout.n c.loop-r.r file.layout.listed file.long c.loop-r-test.true)

pub loop-r-preserved : goal.loop-r-preserved
loop-r-preserved c =
    let file = c.args.self in
    rows_more file.bytes.now (width file.layout.n) c.loop-r.r c.args.rows.now c.loop-r.rows c.loop-r.invariant _ _ (omega arith) (c.copy_from_slice.ensures.after ∙ c.row.ensures)

pub returns : goal.returns
returns c =
    let file = c.args.self in
    rows_done file.bytes.now file.layout.n c.loop-r.r c.args.rows.now c.loop-r.rows c.loop-r.invariant (omega arith) c.requires
