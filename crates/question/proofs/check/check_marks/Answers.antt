-- `check_marks`: what the finder has without pins it has with them; otherwise the lowest pin that is n or above is the place.
use Rattle.std.proofs.Common.{◌≡◌, ◌+◌, length, rules}
use Rattle.std.proofs.lemmas.Result.{err_from_is_err_and}
use Rattle.sets.specs.Tables.{no5}
use Rattle.sets.proofs.Verdicts.{place_given}
use Rattle.question.proofs.Pins.{marks_before, marks_after}
use Rattle.question.proofs.check.check_marks.Goals as goal

pub returns-in_err-none_at : goal.returns-in_err-none_at
unfolding no5
returns-in_err-none_at c =
    let table = c.args.table.now in
    let four : length c.args.held.words ≡ 4 = search rules in
    let p = err_from_is_err_and c.from_residual.result c.from_residual.ensures.1 in
    rw (p.1, p.2) (marks_before table.n table.words.now c.args.held.words c.args.pinned.words table.long four _ (place_given 5 _ (table.n + 1) 256 c.in_err-none_at.ensures c.first_beyond.ensures))

pub returns : goal.returns
unfolding no5
returns c =
    let table = c.args.table.now in
    let four : length c.args.held.words ≡ 4 = search rules in
    marks_after table.n table.words.now c.args.held.words c.args.pinned.words table.long four table.few (place_given 5 _ (table.n + 1) 256 c.in_ok-none_at.ensures c.first_beyond.ensures)
    c.first.ensures c.minus-beyond.ensures c.place_in_row.ensures c.none_at-2.ensures
