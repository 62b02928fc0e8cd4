-- `check`: the finder is asked for 5, and what is left is `check_pairs`'s.
use Rattle.std.proofs.Common.{[], ◌∷◌, ◌∙◌, ◌+◌}
use Rattle.std.proofs.lemmas.Result.{err_from_is_err_and}
use Rattle.sets.specs.Tables.{no5, no6, no7}
use Rattle.sets.proofs.Verdicts.{place_given, refused_before, passed_before}
use Rattle.sets.proofs.table.Table.check.Goals as goal

pub returns-in_err-none_at : goal.returns-in_err-none_at
unfolding no5
returns-in_err-none_at c =
    let table = c.args.self.now in
    let set = c.args.set.words in
    let p = err_from_is_err_and c.from_residual.result c.from_residual.ensures.1 in
    rw (p.1, p.2) (refused_before _ (no5 table.n table.words.now set ∷ []) (no6 table.n table.words.now ∷ no7 table.n table.words.now ∷ []) (place_given 5 _ (table.n + 1) 256 c.in_err-none_at.ensures c.first_beyond.ensures))

pub returns : goal.returns
unfolding no5
returns c =
    let table = c.args.self.now in
    let set = c.args.set.words in
    c.check_pairs.ensures
    ∙ passed_before (no5 table.n table.words.now set ∷ []) (no6 table.n table.words.now ∷ no7 table.n table.words.now ∷ []) (place_given 5 _ (table.n + 1) 256 c.in_ok-none_at.ensures c.first_beyond.ensures)
