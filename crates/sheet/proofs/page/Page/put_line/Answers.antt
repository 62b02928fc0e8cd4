-- `put_line`: the numbers that are to come, and the line feed, are left of the line.
use Rattle.std.proofs.Common.{ap, List, ℕ, ◌∷◌, ◌+◌, map, get_or, drop}
use Rattle.std.proofs.lemmas.List.{drop_all}
use Rattle.sheet.specs.Text.{decimal, behind, line}
use Rattle.sheet.proofs.Putting.{on_all, on_room, on_next, on_same, on_completes, behind_next}
use Rattle.sheet.proofs.page.Page.put_line.Goals as goal

pub loop-n-init : goal.loop-n-init
unfolding line
loop-n-init c = on_next c.args.word.now (on_all c.args.self.now _ c.requires) c.put_word.ensures

pub put_next-requires : goal.put_next-requires
put_next-requires c =
    let numbers = c.args.numbers.now in
    let i = c.loop-n.n-index in
    on_room (32 ∷ decimal (get_or numbers i 0)) (behind (map decimal (drop (i + 1) numbers))) (on_same (behind_next numbers i c.loop-n-test.true) c.loop-n.invariant)

pub loop-n-preserved : goal.loop-n-preserved
loop-n-preserved c =
    on_next _ (on_same (behind_next c.args.numbers.now c.loop-n.n-index c.loop-n-test.true) c.loop-n.invariant) c.put_next.ensures

pub put_word-requires-2 : goal.put_word-requires-2
unfolding behind
put_word-requires-2 c =
    let e = ap (λ (l : List ℕ). behind (map decimal l)) (drop_all c.loop-n.n-index c.args.numbers.now c.loop-n-test.false) in
    (on_same e c.loop-n.invariant).left.room

pub returns : goal.returns
unfolding behind
returns c =
    let e = ap (λ (l : List ℕ). behind (map decimal l)) (drop_all c.loop-n.n-index c.args.numbers.now c.loop-n-test.false) in
    on_completes (on_same e c.loop-n.invariant) c.put_word-2.ensures
