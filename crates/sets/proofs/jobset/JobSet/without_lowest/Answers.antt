-- `without_lowest`: the lowest job is in the first word that is not 0, and `w & (w - 1)` takes its bit out.
use Rattle.std.proofs.Common.{◌<◌, length, arith, rules}
use Rattle.sets.proofs.Words.{lowest_at, lowest_nowhere, without_none, lowered_in}
use Rattle.sets.proofs.jobset.JobSet.without_lowest.Goals as goal

pub returns-then-word-ne0 : goal.returns-then-word-ne0
returns-then-word-ne0 c =
    let inside : c.loop-i.i < length c.args.self.words = search rules in
    lowered_in c.args.self.words c.loop-i.i (search rules) inside c.if-word-ne0.true (lowest_at c.args.self.words (search rules) c.loop-i.i (omega arith) c.loop-i.invariant c.if-word-ne0.true)

pub returns : goal.returns
returns c = without_none c.args.self.words _ (omega (arith, lowest_nowhere c.args.self.words (search rules) (λ k h. c.loop-i.invariant k (omega arith))))
