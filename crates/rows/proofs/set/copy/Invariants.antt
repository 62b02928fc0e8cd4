-- `copy`: the two are as long, and the same before word q.
use Rattle.rows.proofs.Sizes.{CopiedTo}
use Rattle.rows.proofs.set.copy.Given as goal

abbrev pub invariant-loop-q : goal.invariant-loop-q
invariant-loop-q l = CopiedTo l.q l.a l.b
