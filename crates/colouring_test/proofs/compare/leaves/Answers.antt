-- `leaves`: the first words of the set are as many as it is wide, they have its jobs from the word of the lowest on, and there is room for the row of every job.
use Rattle.std.proofs.Common.{◌/◌, ℕ, sym, subst, take, arith}
use Rattle.std.proofs.Math.Seq.{length-take-le}
use Rattle.sets.specs.Words.{jobs}
use Rattle.rows.specs.Rows.{Since}
use Rattle.rows.proofs.Packing.{all_rows}
use Rattle.colouring_test.proofs.Rows.{since_lowest}
use Rattle.colouring_test.proofs.compare.leaves.Goals as goal

pub greedy_classes-reply-requires-clause-set_in : goal.greedy_classes-reply-requires-clause-set_in
greedy_classes-reply-requires-clause-set_in c =
    let width = c.args.packed.now.width in
    rw (c.rows.ensures.0, c.rows.ensures.1) (all_rows _ _ _ c.args.packed.now.narrow.1 (length-take-le width c.words-words.result (omega arith)) (omega arith))

pub greedy_classes-reply-requires-clause-since : goal.greedy_classes-reply-requires-clause-since
greedy_classes-reply-requires-clause-since c =
    let words = take c.args.packed.now.width c.words-words.result in
    subst (λ (v : ℕ). Since (v / 64) (jobs words)) (sym c.lowest_of-low.ensures) (since_lowest words)
