-- W-212: "keep rows and sets of ceil(n/64) words". A set of w words is a part of lent room, and its list of jobs is `jobs` of those words, as for four.
use Rattle.std.specs.Prelude.{◌≡◌, Bool, List, ℕ, ◌+◌, ◌*◌, ◌/◌, ◌≤◌, ◌<◌, leb, length, take, drop}
use Rattle.graphs.specs.Jobs.{keep, ◌∈◌}
use Rattle.sets.specs.Words.{in_words, jobs, row_of}

-- "ceil(n/64)"
unfoldable pub width_of : ℕ → ℕ
width_of n = (n + 63) / 64

-- set i of sets that lie side by side, w words each: a row of a table, a class of a colouring, C, P or X of a frame
unfoldable pub set_at : ℕ → List ℕ → ℕ → List ℕ
set_at w room i = take w (drop (w * i) room)

unfoldable pub jobs_at : ℕ → List ℕ → ℕ → List ℕ
jobs_at w room i = jobs (set_at w room i)

-- "Bit c of row r says that r and c fit."
unfoldable pub fits_at : ℕ → List ℕ → ℕ → ℕ → Bool
fits_at w rows r c = in_words (set_at w rows r) c

-- a set of w words, each job of which has its row
pub record SetIn (w : ℕ) (rows set : List ℕ) : Type 0 where
  pub narrow : w ≤ 4
  pub words : length set ≡ w
  pub row : (j : ℕ) → j ∈ jobs set → w * j + w ≤ length rows

-- no job of the list is in a word before `low`
pub record Since (low : ℕ) (l : List ℕ) : Type 0 where
  pub since : (j : ℕ) → j ∈ l → 64 * low ≤ j

-- the jobs of the list from word q on
unfoldable pub onward : List ℕ → ℕ → List ℕ
onward l q = keep (λ j. leb (64 * q) j) l

-- the rows are the first words of the table's rows
pub record Packed (w n : ℕ) (table rows : List ℕ) : Type 0 where
  pub long : length rows ≡ w * n
  pub each : (r : ℕ) → r < n → set_at w rows r ≡ take w (row_of table r)

-- no job of the list is past w words
pub record SetWithin (w : ℕ) (l : List ℕ) : Type 0 where
  pub within : (j : ℕ) → j ∈ l → j < 64 * w
