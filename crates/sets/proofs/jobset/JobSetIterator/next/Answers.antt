-- `next`: the lowest job is the head of the list, and what is left without it is the tail.
use Rattle.std.proofs.Common.{◌<◌, length, ap, arith, rules}
use Rattle.sets.proofs.Going.{lowest_within, lowest_then, lowest_last}
use Rattle.sets.proofs.jobset.JobSetIterator.next.Goals as goal

pub returns-then-job-eq-MOST_JOBS-clause-steps : goal.returns-then-job-eq-MOST_JOBS-clause-steps
returns-then-job-eq-MOST_JOBS-clause-steps c =
    let none = lowest_last c.args.self.now.words c.lowest-job.ensures (omega arith) in
    (none, none)

pub returns-clause-steps : goal.returns-clause-steps
returns-clause-steps c =
    let ws = c.args.self.now.words in
    let job : c.lowest-job.result < 256 = omega (arith, lowest_within ws) in
    lowest_then ws c.lowest-job.ensures job c.without_lowest.ensures

pub returns-clause-goes : goal.returns-clause-goes
returns-clause-goes c =
    let ws = c.args.self.now.words in
    let job : c.lowest-job.result < 256 = omega (arith, lowest_within ws) in
    let shorter = ap length (lowest_then ws c.lowest-job.ensures job c.without_lowest.ensures) in
    search rules
