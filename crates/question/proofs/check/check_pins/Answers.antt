-- `check_pins`: without pins nothing is refused; the lowest pin that is held is the place of 41, and the finder has that of 42.
use Rattle.std.proofs.Common.{[], ◌∷◌, ◌+◌, sym, ◌∙◌, rules}
use Rattle.std.proofs.lemmas.Result.{err_from_is_err_and}
use Rattle.question.specs.Pins.{no41, no42}
use Rattle.sets.proofs.Judging.{clear_all}
use Rattle.sets.proofs.Verdicts.{place_given, refused_before, passed_before}
use Rattle.question.proofs.Pins.{held_row, unpinned_clear}
use Rattle.question.proofs.check.check_pins.Goals as goal

pub returns-then-is_empty : goal.returns-then-is_empty
returns-then-is_empty c =
    let table = c.args.table.now in
    sym (clear_all _ (unpinned_clear table.n table.words.now c.args.held.words c.args.pinned.words table.few (c.is_empty.ensures.0 c.if-is_empty.true)))

pub returns-in_err-none_at : goal.returns-in_err-none_at
unfolding no41
returns-in_err-none_at c =
    let table = c.args.table.now in
    let held = c.args.held.words in
    let pinned = c.args.pinned.words in
    let place = c.place_in_row-held_pin.ensures ∙ held_row table.n held pinned c.both.ensures in
    let p = err_from_is_err_and c.from_residual.result c.from_residual.ensures.1 in
    rw (p.1, p.2) (refused_before _ (no41 table.n held pinned ∷ []) (no42 table.n table.words.now pinned ∷ []) (place_given 41 _ (table.n + 2) 256 c.in_err-none_at.ensures place))

pub returns : goal.returns
unfolding no41 no42
returns c =
    let table = c.args.table.now in
    let held = c.args.held.words in
    let pinned = c.args.pinned.words in
    let place = c.place_in_row-held_pin.ensures ∙ held_row table.n held pinned c.both.ensures in
    place_given 42 _ table.n table.n c.none_at-2.ensures (search rules)
    ∙ passed_before (no41 table.n held pinned ∷ []) (no42 table.n table.words.now pinned ∷ []) (place_given 41 _ (table.n + 2) 256 c.in_ok-none_at.ensures place)
