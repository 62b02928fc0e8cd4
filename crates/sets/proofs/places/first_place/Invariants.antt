-- `first_place`: the test holds nowhere in the rows passed.
use Rattle.std.proofs.Common.{ℕ, Bool}
use Rattle.sets.specs.Places.{Decides, Nowhere}
use Rattle.sets.proofs.places.first_place.Given as goal

abbrev pub invariant-loop-row : goal.invariant-loop-row
invariant-loop-row g l =
    (t : ℕ → ℕ → Bool) → Decides (goal.T-post g l.test) t l.rows l.columns → Nowhere t l.row l.columns
