-- `is_dominated_by_words`: the first words of a set are as many as it is wide, and there is room for the row of every job.
use Rattle.std.proofs.Common.{arith}
use Rattle.std.proofs.Math.Seq.{length-take-le}
use Rattle.rows.proofs.Packing.{all_rows}
use Rattle.bounds_test.proofs.compare.is_dominated_by_words.Goals as goal

pub missed-requires-clause-set_in : goal.missed-requires-clause-set_in
missed-requires-clause-set_in c =
    let width = c.args.packed.now.width in
    rw (c.rows.ensures.0, c.rows.ensures.1) (all_rows _ _ _ c.args.packed.now.narrow.1 (length-take-le width c.words-others.result (omega arith)) (omega arith))
