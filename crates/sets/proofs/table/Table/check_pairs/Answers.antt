-- `check_pairs`: the finder is asked for 6 and then for 7, and the first place that it has is given.
use Rattle.std.proofs.Common.{[], ◌∷◌, ◌∙◌}
use Rattle.std.proofs.lemmas.Result.{err_from_is_err_and}
use Rattle.sets.specs.Tables.{no6, no7}
use Rattle.sets.proofs.Verdicts.{place_given, refused_before, passed_before}
use Rattle.sets.proofs.table.Table.check_pairs.Goals as goal

pub returns-in_err-none_at : goal.returns-in_err-none_at
unfolding no6
returns-in_err-none_at c =
    let table = c.args.self.now in
    let p = err_from_is_err_and c.from_residual.result c.from_residual.ensures.1 in
    rw (p.1, p.2) (refused_before _ (no6 table.n table.words.now ∷ []) (no7 table.n table.words.now ∷ []) (place_given 6 _ table.n table.n c.in_err-none_at.ensures c.first_self_pair.ensures))

pub returns : goal.returns
unfolding no6 no7
returns c =
    let table = c.args.self.now in
    place_given 7 _ table.n table.n c.none_at-2.ensures c.first_one_way.ensures
    ∙ passed_before (no6 table.n table.words.now ∷ []) (no7 table.n table.words.now ∷ []) (place_given 6 _ table.n table.n c.in_ok-none_at.ensures c.first_self_pair.ensures)
