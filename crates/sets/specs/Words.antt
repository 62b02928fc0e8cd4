-- Sets and tables as words, and the list of jobs that words stand for. Nothing above this crate speaks of a word but through `jobs`.
use Rattle.std.specs.Prelude.{◌≡◌, ◌<◌, Bool, ◌||◌, cond, List, [], ◌∷◌, ℕ, zero, suc, ◌+◌, ◌*◌, ◌/◌, ◌%◌, ◌^◌, eqb, get_or, take, drop}
use Rattle.std.specs.Int.{w64}
use Rattle.std.proofs.Common.{Fits}
use Rattle.graphs.specs.Jobs.{up_to, keep, has}

-- bit b of the word w
unfoldable pub bit : ℕ → ℕ → Bool
bit w b = eqb (w / 2 ^ b % 2) 1

-- "A set is four 64-bit words": each word is a 64-bit number
pub record Words (ws : List ℕ) : Type 0 where
  pub each : (k : ℕ) → Fits w64 (get_or ws k 0)

-- "job j is bit j % 64 of word j / 64"
unfoldable pub in_words : List ℕ → ℕ → Bool
in_words ws j = bit (get_or ws (j / 64) 0) (j % 64)

-- Word by word: rs has at each of four words what f makes of the words of u and v there.
abbrev pub Wordwise : (ℕ → ℕ → ℕ) → List ℕ → List ℕ → List ℕ → Type 0
Wordwise f u v rs = (q : ℕ) → q < 4 → get_or rs q 0 ≡ f (get_or u q 0) (get_or v q 0)

-- the code's operation, of which `says` tells what it may answer, makes of any two words what f makes of them
abbrev pub Makes : (ℕ → ℕ → ℕ → Type 0) → (ℕ → ℕ → ℕ) → Type 0
Makes says f = (a b w : ℕ) → a < 2 ^ 64 → b < 2 ^ 64 → says a b w → w ≡ f a b

-- the ascending list of a set's jobs
unfoldable pub jobs : List ℕ → List ℕ
jobs ws = keep (in_words ws) (up_to 256)

-- the number whose bits, lowest first, are the test at `count` numbers from `at` on
unfoldable pub number : (ℕ → Bool) → ℕ → ℕ → ℕ
number t at zero = 0
number t at (suc count) = cond (t at) 1 0 + 2 * number t (suc at) count

-- the way back: the four words of a list of jobs
unfoldable pub words : List ℕ → List ℕ
words l = number (has l) 0 64 ∷ number (has l) 64 64 ∷ number (has l) 128 64 ∷ number (has l) 192 64 ∷ []

-- the jobs of l as a set: ascending, each once
unfoldable pub set_of : List ℕ → List ℕ
set_of l = keep (has l) (up_to 256)

-- the jobs of l and a
unfoldable pub added : ℕ → List ℕ → List ℕ
added a l = keep (λ j. eqb a j || has l j) (up_to 256)

-- "A table is n rows of four words": row r
unfoldable pub row_of : List ℕ → ℕ → List ℕ
row_of table r = take 4 (drop (4 * r) table)

-- the jobs of row r
unfoldable pub row_jobs : List ℕ → ℕ → List ℕ
row_jobs table r = jobs (row_of table r)

-- "Bit c of row r says that r and c fit."
unfoldable pub fits : List ℕ → ℕ → ℕ → Bool
fits table r c = in_words (row_of table r) c
