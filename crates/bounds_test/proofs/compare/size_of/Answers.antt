-- `size_of`: the jobs that a set has with itself are all of its jobs.
use Rattle.std.proofs.Common.{length, ap, ◌∙◌}
use Rattle.bounds_test.proofs.Rows.{both_same}
use Rattle.bounds_test.proofs.compare.size_of.Goals as goal

pub returns : goal.returns
returns c = c.size_of_both.ensures ∙ ap length (both_same _)
