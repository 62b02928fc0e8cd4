-- Lists of jobs. A set of jobs is the list of its jobs, each once, ascending.
use Rattle.std.specs.Prelude.{◌≡◌, Bool, true, false, not, ◌&&◌, ◌||◌, List, [], ◌∷◌, ℕ, zero, suc, ◌<◌, eqb, length}

-- `count` numbers one after the other, the first of them `at`
unfoldable pub from : ℕ → ℕ → List ℕ
from at zero = []
from at (suc count) = at ∷ from (suc at) count

-- "n jobs, 0 to n-1"
unfoldable pub up_to : ℕ → List ℕ
up_to n = from 0 n

-- a at the head of l, where the test came out true
abbrev pub put : {A : Type 0} → Bool → A → List A → List A
put true a l = a ∷ l
put false a l = l

-- the members of a list at which a test holds, in the list's order
unfoldable pub keep : {A : Type 0} → (A → Bool) → List A → List A
keep t [] = []
keep t (a ∷ l) = put (t a) a (keep t l)

-- whether j is in the list
unfoldable pub has : List ℕ → ℕ → Bool
has [] j = false
has (a ∷ l) j = eqb a j || has l j

infix 4 ◌∈◌
abbrev pub ◌∈◌ : ℕ → List ℕ → Type 0
j ∈ l = has l j ≡ true

-- every job of l is in m
abbrev pub Within : List ℕ → List ℕ → Type 0
Within l m = (j : ℕ) → j ∈ l → j ∈ m

-- two lists of one set: as many jobs, and the same
pub record Alike (l m : List ℕ) : Type 0 where
  pub size : length l ≡ length m
  pub members : (j : ℕ) → has l j ≡ has m j

-- whether the test holds at every job of the list, and at some job of it
unfoldable pub every : {A : Type 0} → (A → Bool) → List A → Bool
every t [] = true
every t (a ∷ l) = t a && every t l

unfoldable pub some : {A : Type 0} → (A → Bool) → List A → Bool
some t [] = false
some t (a ∷ l) = t a || some t l

-- the list without the job y
unfoldable pub without : ℕ → List ℕ → List ℕ
without y l = keep (λ j. not (eqb y j)) l

-- the jobs of l that are in m, and those that are not
unfoldable pub both : List ℕ → List ℕ → List ℕ
both l m = keep (has m) l

unfoldable pub minus : List ℕ → List ℕ → List ℕ
minus l m = keep (λ j. not (has m j)) l

-- the lowest job of an ascending list; 256 where there is none
unfoldable pub lowest : List ℕ → ℕ
lowest [] = 256
lowest (a ∷ l) = a

-- each job of the list stands in the relation R to every later one
unfoldable pub InOrder : (ℕ → ℕ → Type 0) → List ℕ → Type 0
InOrder R [] = Unit {0}
InOrder R (a ∷ l) = ((b : ℕ) → b ∈ l → R a b) × InOrder R l

-- "ascending job lists"
abbrev pub Ascending : List ℕ → Type 0
Ascending = InOrder ◌<◌

-- no job stands twice in the list
abbrev pub Distinct : List ℕ → Type 0
Distinct = InOrder (λ a b. a ≡ b → ⊥)

-- s is p with some jobs left out: a set of jobs of p, in p's order
pub data Part : List ℕ → List ℕ → Type 0 where
  none : Part [] []
  taken : {a : ℕ} {s p : List ℕ} → Part s p → Part (a ∷ s) (a ∷ p)
  left : {a : ℕ} {s p : List ℕ} → Part s p → Part s (a ∷ p)
