-- `lowest_of`: no job lies before word q.
use mathlib.Core.Path.{◌≡◌}
use Rattle.sets.specs.Words.{jobs}
use Rattle.rows.specs.Rows.{onward}
use Rattle.rows.proofs.set.lowest_of.Given as goal

abbrev pub invariant-loop-q : goal.invariant-loop-q
invariant-loop-q l = onward (jobs l.a) l.q ≡ jobs l.a
