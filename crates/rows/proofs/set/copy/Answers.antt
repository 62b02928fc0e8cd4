-- `copy`: the two are as long, and the same before word q.
use native.Mathlib.Omega.{arith}
use borrow.Author.Count.{below_none}
use Rattle.rows.proofs.Sizes.{copied_more, copied}
use Rattle.rows.proofs.set.copy.Goals as goal

pub loop-q-init : goal.loop-q-init
loop-q-init c = record { long = c.requires; same_before = below_none _ }

pub loop-q-preserved : goal.loop-q-preserved
loop-q-preserved c = copied_more _ _ _ (omega arith) c.loop-q.invariant

pub returns : goal.returns
returns c = copied _ _ _ (omega arith) c.loop-q.invariant
