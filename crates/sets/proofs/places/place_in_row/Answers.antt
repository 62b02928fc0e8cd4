-- `place_in_row`: the lowest job is the head of the list.
use Rattle.std.proofs.Common.{List, [], ℕ, sym, ap}
use Rattle.sets.specs.Places.{in_row}
use Rattle.sets.proofs.places.place_in_row.Goals as goal

pub returns-in_err-column : goal.returns-in_err-column
returns-in_err-column c = rw c.from_residual.ensures (sym (ap (λ (l : List ℕ). in_row c.args.row l []) c.in_err-column.ensures.steps.0))

pub returns : goal.returns
returns c = sym (ap (λ (l : List ℕ). in_row c.args.row l []) c.in_ok-column.ensures.steps)
