-- The first place, by row and then column, at which a test holds.
use Rattle.std.specs.Prelude.{◌≡◌, Bool, true, false, cond, List, [], ◌∷◌, ℕ, ◌≤◌, ◌<◌, Option, Some, None}
use Rattle.graphs.specs.Jobs.{up_to}
use Rattle.sets.specs.declared.places.Place.{Place}

-- the first of these numbers at which the test holds, alone in a list; the empty list where there is none
unfoldable pub first_in : (ℕ → Bool) → List ℕ → List ℕ
first_in t [] = []
first_in t (a ∷ l) = cond (t a) (a ∷ []) (first_in t l)

-- a row with the column found in it; where none was, what the later rows have
abbrev pub in_row : ℕ → List ℕ → List ℕ → List ℕ
in_row r [] later = later
in_row r (c ∷ l) later = r ∷ c ∷ []

unfoldable pub first_place_in : (ℕ → ℕ → Bool) → List ℕ → ℕ → List ℕ
first_place_in t [] columns = []
first_place_in t (r ∷ rows) columns = in_row r (first_in (t r) (up_to columns)) (first_place_in t rows columns)

-- "Places are the first by row, then column": row and column, or the empty list where the test holds nowhere
unfoldable pub first_place : (ℕ → ℕ → Bool) → ℕ → ℕ → List ℕ
first_place t rows columns = first_place_in t (up_to rows) columns

-- the same of the code's answer
abbrev pub place_of : Option Place → List ℕ
place_of (Some p) = p.row ∷ p.column ∷ []
place_of None = []

-- the code's test, of which `says` tells what it may answer, answers as t does at each place of these rows and columns
abbrev pub Decides : (ℕ → ℕ → Bool → Type 0) → (ℕ → ℕ → Bool) → ℕ → ℕ → Type 0
Decides says t rows columns = (r c : ℕ) (b : Bool) → r < rows → c < columns → says r c b → b ≡ t r c

-- c is the first number below `columns` at which the test holds, or `columns` where there is none
pub record FirstAt (t : ℕ → Bool) (columns c : ℕ) : Type 0 where
  pub within : c ≤ columns
  pub before : (k : ℕ) → k < c → t k ≡ false
  pub holds : c < columns → t c ≡ true

-- the first number in full: the test holds there, and at none before it
pub record FoundAt (t : ℕ → Bool) (count i : ℕ) : Type 0 where
  pub within : i < count
  pub holds : t i ≡ true
  pub earlier : (k : ℕ) → k < i → t k ≡ false

-- the first place in full: the test holds there, and at none before it, by row and then column; and that it holds at no place
pub record Found (t : ℕ → ℕ → Bool) (rows columns r c : ℕ) : Type 0 where
  pub row : r < rows
  pub column : c < columns
  pub holds : t r c ≡ true
  pub earlier_row : (q k : ℕ) → q < r → k < columns → t q k ≡ false
  pub earlier_column : (k : ℕ) → k < c → t r k ≡ false

abbrev pub Nowhere : (ℕ → ℕ → Bool) → ℕ → ℕ → Type 0
Nowhere t rows columns = (r c : ℕ) → r < rows → c < columns → t r c ≡ false
