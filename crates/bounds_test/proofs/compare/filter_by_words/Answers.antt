-- `filter_by_words`: each job of the set is below n and so has its row.
use Rattle.std.proofs.Common.{arith}
use Rattle.sets.specs.Words.{jobs}
use Rattle.bounds_test.proofs.Rows.{all_below, rows_of_set}
use Rattle.bounds_test.proofs.compare.filter_by_words.Goals as goal

pub degree_filter-left-requires-clause-set_in : goal.degree_filter-left-requires-clause-set_in
degree_filter-left-requires-clause-set_in c =
    let n = c.args.checked.graph.n in
    let words = c.words-words.result in
    rows_of_set c.args.checked.rows.width n c.args.checked.rows.words.now words c.args.checked.narrow.1 (omega arith) c.args.checked.long
    (all_below n (jobs words) c.first.ensures c.minus.ensures (omega arith))
