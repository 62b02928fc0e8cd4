-- `first_in_row`: the test holds at no column passed.
use Rattle.std.proofs.Common.{◌≡◌, ℕ, ◌<◌, Bool, false}
use Rattle.sets.proofs.places.first_in_row.Given as goal

abbrev pub invariant-loop-column : goal.invariant-loop-column
invariant-loop-column g l =
    (t : ℕ → Bool) → ((c : ℕ) (b : Bool) → c < l.columns → goal.T-post g l.test l.row c b → b ≡ t c) → (k : ℕ) → k < l.column → t k ≡ false
