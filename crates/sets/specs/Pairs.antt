-- What Check's answers mean.
use Rattle.std.specs.Prelude.{◌≡◌, false, ◌⊎◌, List, ℕ, ◌≤◌, ◌<◌, length}
use Rattle.graphs.specs.Jobs.{◌∈◌}
use Rattle.sets.specs.Words.{jobs, fits}
use Rattle.sets.specs.Tables.{Accepted}

-- what is not refused: the table is accepted, and the set is four words of jobs below n
pub record Checkable (n : ℕ) (table set : List ℕ) : Type 0 where
  pub accepted_table : Accepted n table
  pub set_words : length set ≡ 4
  pub set_inside : (j : ℕ) → j ∈ jobs set → j < n

-- a "pair that doesn't fit": two different jobs of the set
pub record Misfitting (table set : List ℕ) (a b : ℕ) : Type 0 where
  pub first_inside : a ∈ jobs set
  pub second_in : b ∈ jobs set
  pub different : a ≡ b → ⊥
  pub not_fitting : fits table a b ≡ false

-- "the first pair that doesn't fit (lowest first job, then lowest second job)"
pub record FirstPair (table set : List ℕ) (a b : ℕ) : Type 0 where
  pub misfitting : Misfitting table set a b
  pub first_of_all : (x y : ℕ) → Misfitting table set x y → (a < x) ⊎ ((a ≡ x) × (b ≤ y))
