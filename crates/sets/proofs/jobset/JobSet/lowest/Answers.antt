-- `lowest`: in the first word that is not 0 the trailing zeros say the place of the lowest job.
use Rattle.sets.proofs.Words.{lowest_0, lowest_1, lowest_2, lowest_3, lowest_none}
use borrow.Author.Rules.{rules}
use Rattle.sets.proofs.jobset.JobSet.lowest.Goals as goal

pub returns-then-w-ne0 : goal.returns-then-w-ne0
returns-then-w-ne0 c = lowest_0 c.args.self.words (search rules) c.if-w-ne0.true

pub returns-then-w-ne0-2 : goal.returns-then-w-ne0-2
returns-then-w-ne0-2 c =
    lowest_1 c.args.self.words (search rules) c.if-w-ne0.false c.if-w-ne0-2.true

pub returns-then-w-ne0-3 : goal.returns-then-w-ne0-3
returns-then-w-ne0-3 c =
    lowest_2 c.args.self.words (search rules) c.if-w-ne0.false c.if-w-ne0-2.false c.if-w-ne0-3.true

pub returns-then-w-ne0-4 : goal.returns-then-w-ne0-4
returns-then-w-ne0-4 c =
    lowest_3 c.args.self.words (search rules) c.if-w-ne0.false c.if-w-ne0-2.false c.if-w-ne0-3.false c.if-w-ne0-4.true

pub returns : goal.returns
returns c =
    lowest_none c.args.self.words (search rules) c.if-w-ne0.false c.if-w-ne0-2.false c.if-w-ne0-3.false c.if-w-ne0-4.false
