-- `compare_filters`: the rows that are packed lie in front of the room, as many words as n rows have; no check refuses their table, so they pair jobs.
use Rattle.std.proofs.Common.{sym, subst, List, [], ◌∷◌, ℕ, ◌*◌, take, arith}
use Rattle.std.proofs.Math.Seq.{length-take-le, take_at}
use Rattle.graphs.specs.Clique.{Paired}
use Rattle.rows.specs.Rows.{fits_at}
use Rattle.bounds_test.proofs.Rows.{packed_pairs}
use Rattle.bounds_test.proofs.compare.compare_filters.Goals as goal

pub invariant_of-compare_by_degree-clause-paired : goal.invariant_of-compare_by_degree-clause-paired
invariant_of-compare_by_degree-clause-paired c =
    let n = c.args.graph.n in
    let few = c.if-n-gt-MOST_JOBS.false in
    let width = c.width_for-width in
    let words = c.words-words.result in
    let rows = c.pack.new.rows in
    let pairs = packed_pairs n (take (4 * n) words) (0 ∷ 0 ∷ 0 ∷ 0 ∷ []) few (length-take-le (4 * n) words (omega arith)) (sym c.in_default.ensures)
    (width.ensures.2 few) c.pack.ensures in
    subst (λ (l : List ℕ). Paired (fits_at width.result l)) (sym (take_at rows _ _ c.pack.ensures.long)) pairs
