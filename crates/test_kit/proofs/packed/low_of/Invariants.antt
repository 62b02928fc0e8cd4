-- `low_of`: no job lies before word q.
use Rattle.sets.specs.Words.{jobs}
use Rattle.rows.specs.Rows.{Since}
use Rattle.test_kit.proofs.packed.low_of.Given as goal

abbrev pub invariant-loop-q : goal.invariant-loop-q
invariant-loop-q l = Since l.q (jobs l.part)
