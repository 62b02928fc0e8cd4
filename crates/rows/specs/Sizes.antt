-- What the size of a set made word by word counts.
use Rattle.std.specs.Prelude.{◌≡◌, Bool, ◌&&◌, List, ℕ, ◌^◌, ◌<◌}
use Rattle.graphs.specs.Jobs.{keep, has}
use Rattle.sets.specs.Words.{bit}

-- an operation on two words keeps, of the bits of the first, those where the second's bit passes the test
pub record KeepsBits (gives : ℕ → ℕ → ℕ → Type 0) (t : Bool → Bool) : Type 0 where
  pub each : (x y r i : ℕ) → y < 2 ^ 64 → i < 64 → gives x y r → bit r i ≡ (bit x i && t (bit y i))

-- the jobs of l that pass the test on whether they are in m
unfoldable pub kept : (Bool → Bool) → List ℕ → List ℕ → List ℕ
kept t l m = keep (λ j. t (has m j)) l
