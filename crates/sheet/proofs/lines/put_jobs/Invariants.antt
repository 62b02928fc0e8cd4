-- `put_jobs`: the lines of the jobs that are to come are left to be put.
use Rattle.sets.specs.Words.{jobs}
use Rattle.sheet.specs.Sheet.{job_lines}
use Rattle.sheet.proofs.Putting.{LeftOn}
use Rattle.sheet.proofs.lines.put_jobs.Given as goal

abbrev pub invariant-loop-job : goal.invariant-loop-job
invariant-loop-job l = LeftOn l.fn.page (job_lines (jobs l.fn.kept.words)) l.page (job_lines (jobs l.job-iterator.words))
