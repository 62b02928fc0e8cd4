-- `number_jobs`: the jobs before job j have their numbers, and a turn gives job j its own.
use Rattle.std.proofs.Common.{arith}
use Rattle.colouring.proofs.Numbers.{numbered_none, numbered_more, numbered_all}
use Rattle.colouring.proofs.greedy.Classes.number_jobs.Goals as goal

pub loop-j-init : goal.loop-j-init
loop-j-init c = numbered_none _ _ c.requires.1

pub loop-j-preserved : goal.loop-j-preserved
loop-j-preserved c = numbered_more _ c.class_of.result (omega arith) c.loop-j.invariant c.class_of.ensures

pub returns : goal.returns
returns c = numbered_all _ (omega arith) c.loop-j.invariant
