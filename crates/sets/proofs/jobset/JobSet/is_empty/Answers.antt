-- `is_empty`: 256 is the lowest job exactly where the list is empty.
use Rattle.std.proofs.Common.{◌∙◌, ap, arith}
use borrow.Author.Tests.{eq-eqb, eqb-true}
use Rattle.graphs.specs.Jobs.{lowest}
use Rattle.sets.proofs.Going.{lowest_last}
use Rattle.sets.proofs.jobset.JobSet.is_empty.Goals as goal

pub returns : goal.returns
unfolding lowest
returns c = (
  λ e. lowest_last c.args.self.words c.lowest.ensures (let same = eqb-true c.lowest.result 256 e in omega arith),
  λ e. eq-eqb c.lowest.result 256 (c.lowest.ensures ∙ ap lowest e),
)
