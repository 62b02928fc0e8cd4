-- `put_jobs`: the lines of the jobs that are to come are left to be put.
use Rattle.sets.specs.Words.{jobs}
use Rattle.sheet.specs.Text.{line, number_line}
use Rattle.sheet.specs.Sheet.{job_word, job_lines}
use Rattle.sheet.proofs.Putting.{on_room, on_next, on_job, on_last}
use Rattle.sheet.proofs.lines.put_jobs.Goals as goal

pub put_line-requires : goal.put_line-requires
unfolding line number_line
put_line-requires c = on_room (number_line job_word c.in-Some.job) (job_lines (jobs c.next.new.self.words)) (on_job c.in-Some.ensures.steps c.loop-job.invariant)

pub loop-job-preserved : goal.loop-job-preserved
unfolding line number_line
loop-job-preserved c = on_next (number_line job_word c.in-Some.job) (on_job c.in-Some.ensures.steps c.loop-job.invariant) c.put_line.ensures

pub returns : goal.returns
returns c = on_last c.in-None.ensures.steps.0 c.loop-job.invariant
