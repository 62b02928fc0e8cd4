-- `size`: four counts of ones, each at most 64, add up to the length of the list of jobs.
use mathlib.Core.Path.{sym}
use Rattle.sets.proofs.Words.{jobs_size}
use borrow.Author.Rules.{rules}
use Rattle.sets.proofs.jobset.JobSet.size.Goals as goal

pub returns : goal.returns
returns c = sym (jobs_size c.args.self.words (search rules))
