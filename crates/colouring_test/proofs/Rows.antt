-- What the colouring asks of a set: no job is before the word of the lowest. Assumes nothing.
use mathlib.Core.Path.{subst}
use mathlib.Core.Logic.{⊎_elim}
use mathlib.Core.List.{List, ◌∷◌}
use Prim.Native.Nat.{ℕ, ◌/◌, ◌≤◌, ◌<◌}
use native.Mathlib.Omega.{arith}
use Rattle.graphs.specs.Jobs.{◌∈◌, Ascending, lowest}
use Rattle.graphs.proofs.Bools.{lt_or_le}
use Rattle.graphs.proofs.Lists.{not_in_nil, in_cons, order_head}
use Rattle.sets.specs.Words.{jobs}
use Rattle.sets.proofs.Words.{jobs_ascending}
use Rattle.sets.proofs.Going.{lowest_some, lowest_empty}
use Rattle.rows.specs.Rows.{Since}

-- an ascending list has no number below its first
first_least : (v j : ℕ) (r : List ℕ) → Ascending (v ∷ r) → j ∈ (v ∷ r) → v ≤ j
first_least v j r up i = ⊎_elim (λ d. omega arith) (λ m. let l = order_head ◌<◌ v r up j m in omega arith) (in_cons v j r i)

pub since_lowest : (set : List ℕ) → Since (lowest (jobs set) / 64) (jobs set)
since_lowest set = record {
  since = λ j i. ⊎_elim
      (λ h. let e = lowest_some set h in let l = first_least _ j _ (subst Ascending e (jobs_ascending set)) (subst (λ (l : List ℕ). j ∈ l) e i) in omega arith)
      (λ h. absurd (not_in_nil j (subst (λ (l : List ℕ). j ∈ l) (lowest_empty set h) i)))
      (lt_or_le (lowest (jobs set)) 256);
}
