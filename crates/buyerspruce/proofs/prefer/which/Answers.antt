-- `which`: the words that Prefer handed back tell which set they are of.
use Rattle.std.proofs.lemmas.Slice.Eq.{slice_eq-Decides}
use Rattle.std.proofs.lemmas.Bool.Decides.{Decides-eqb}
use Rattle.buyerspruce.proofs.Choosing.{neither, is_first, is_second}
use Rattle.buyerspruce.proofs.prefer.which.Goals as goal

pub returns-then-chosen-ne-SET_WORDS : goal.returns-then-chosen-ne-SET_WORDS
returns-then-chosen-ne-SET_WORDS c = neither c.args.first.now c.args.second.now c.prefer-chosen.result.now c.prefer-chosen.ensures.words 1 2 0 c.if-chosen-ne-SET_WORDS.true

pub returns-then-eq : goal.returns-then-eq
returns-then-eq c =
    let same = slice_eq-Decides Decides-eqb c.prefer-chosen.result.now c.args.first.now c.eq.result c.eq.ensures in
    is_first c.args.first.now c.args.second.now c.prefer-chosen.result.now c.prefer-chosen.ensures.words 1 2 0 c.if-chosen-ne-SET_WORDS.false (same.0 c.if-eq.true)

pub returns-else-eq : goal.returns-else-eq
returns-else-eq c =
    let same = slice_eq-Decides Decides-eqb c.prefer-chosen.result.now c.args.first.now c.eq.result c.eq.ensures in
    is_second c.args.first.now c.args.second.now c.prefer-chosen.result.now c.prefer-chosen.ensures.words 1 2 0 c.if-chosen-ne-SET_WORDS.false (λ e. cc (same.1 e, c.if-eq.false))
