-- `pack`: row by row.
use native.Mathlib.Omega.{arith}
use Rattle.rows.proofs.Packing.{no_rows, row_more, all_packed}
use Rattle.rows.proofs.pack.pack.Goals as goal

pub loop-r-init : goal.loop-r-init
loop-r-init c = no_rows c.args.width c.args.table.now c.args.rows.now

pub loop-r-preserved : goal.loop-r-preserved
loop-r-preserved c =
    row_more c.loop-r.invariant c.requires.n_bound.1 (omega (arith, c.loop-r.auto.rows, c.requires.table_len.1)) c.loop-r-test.true c.copy_from_slice.ensures.len c.copy_from_slice.ensures.after

pub returns : goal.returns
returns c = all_packed c.loop-r.invariant (omega (arith, c.loop-r.auto.rows, c.requires.table_len.1)) (omega arith)
